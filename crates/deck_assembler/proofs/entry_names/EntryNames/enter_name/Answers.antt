use Rattle.std.proofs.{Common.{◌∙◌, true≢false, refl, sym}, lemmas.Result.on_ok_weaker}
use Rattle.deck_assembler.proofs.EntryLaws.{entry-none, entry-some}
use Rattle.deck_assembler.proofs.entry_names.EntryNames.enter_name.Goals as goal

pub returns-in-None : goal.returns-in-None
returns-in-None c =
    λ settled all. entry-none c.args.symbols.now settled c.args.name.now c.args.self.now all (sym c.value.ensures ∙ c.in-None.is)

pub returns-then-may_enter : goal.returns-then-may_enter
returns-then-may_enter c =
    on_ok_weaker c.enter.result (λ entered settled all.
    entry-some c.args.symbols.now settled c.args.name.now c.in-Some.form c.args.self.now c.enter.new.self c.may_enter.result all (sym c.value.ensures ∙ c.in-Some.is) c.may_enter.ensures
    (λ e. entered) (λ e. absurd (true≢false (sym c.if-may_enter.true ∙ e)))) c.enter.ensures

pub returns-else-may_enter : goal.returns-else-may_enter
returns-else-may_enter c =
    λ settled all.
    entry-some c.args.symbols.now settled c.args.name.now c.in-Some.form c.args.self.now c.args.self.now c.may_enter.result all (sym c.value.ensures ∙ c.in-Some.is) c.may_enter.ensures
    (λ e. absurd (true≢false (sym e ∙ c.if-may_enter.false))) (λ e. refl)
