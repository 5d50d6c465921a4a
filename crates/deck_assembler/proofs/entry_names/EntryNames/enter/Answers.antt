use Rattle.std.proofs.{Common.{◌≡◌, ◌∙◌, ℕ, List, [], Some, ap, arith}, lemmas.Result.on_ok_weaker}
use Rattle.definitions.specs.{Entries.with_entry, Settled.Definition}
use Rattle.deck_assembler.proofs.EntryTables.{known-key, row-after, row-entered}
use Rattle.deck_assembler.proofs.entry_names.EntryNames.enter.Goals as goal

pub returns-in-None : goal.returns-in-None
returns-in-None c = absurd (known-key c.args.name.now c.requires.known (cc))

pub returns-in-Some : goal.returns-in-Some
returns-in-Some c =
    let put : c.new-in-Some.result ≡ record { name = c.args.name.now; form = c.args.form } = c.new-in-Some.ensures ∙ ap (λ (n : List ℕ). record { name = n; form = c.args.form }) c.new.ensures in
    on_ok_weaker c.keep_entry.result
    (λ kept. row-entered c.self.inside.entries.entries c.args.name.now c.args.form c.in-Some.key (λ i. omega (arith, c.type_inv.name i)) (cc) c.requires.known c.self.invariant c.keep_entry.new.entries.entries c.new-in-Some.result put kept
    ∙ ap (λ (l : List Definition). with_entry c.args.name.now [] (Some c.args.form) l) c.self.view_is)
    c.keep_entry.ensures.kept

pub invariant_of-self : goal.invariant_of-self
invariant_of-self c =
    let put : c.new-in-Some.result ≡ record { name = c.args.name.now; form = c.args.form } = c.new-in-Some.ensures ∙ ap (λ (n : List ℕ). record { name = n; form = c.args.form }) c.new.ensures in
    row-after c.self.inside.entries.entries c.args.name.now c.args.form c.in-Some.key (λ i. omega (arith, c.type_inv.name i)) (cc) c.requires.known c.self.invariant c.keep_entry.result c.keep_entry.new.entries.entries c.new-in-Some.result put c.keep_entry.ensures.kept c.keep_entry.ensures.without_memory
