-- A statement that enters names adds them to the entries; any other leaves them as they are.
use Rattle.std.proofs.{Common.{◌∙◌, ap, ap₂, sym}, lemmas.Result.on_ok_weaker}
use Rattle.definitions.specs.{Entries.entries_by, Settling.{settle, settled_all}}
use Rattle.definitions.specs.Operations as op
use Rattle.deck_assembler.{specs.Joins.FirstSymbols.symbol_in, specs.Joins.SharedNames.enters, specs.Joins.Walks.{whole_of, all_settled}, proofs.WalkLaws.{enters-step, silent-noted}}
use Rattle.deck_assembler.proofs.deck_names.enter.Goals as goal

pub returns-then-enters : goal.returns-then-enters
returns-then-enters c =
    on_ok_weaker c.enter_operand.result (λ entered known others earlier given is kind taken noted.
    let whole = whole_of c.args.view.now known others in
    let before = settled_all whole.deck.kind earlier in
    let settled = settle whole.deck.kind before given in
    entered (all_settled whole) settled.read.operand (ap symbol_in c.symbols.ensures ∙ is.sized.symbols) taken.operand
    ∙ ap (entries_by (all_settled whole) op.Entry settled.read.operand) noted
    ∙ enters-step whole.deck.kind (all_settled whole) settled before
    (ap₂ enters (sym kind) taken.operation ∙ sym c.enters.ensures ∙ c.if-enters.true)) c.enter_operand.ensures

pub returns-else-enters : goal.returns-else-enters
returns-else-enters c = λ known others earlier given is kind taken noted.
    silent-noted (whole_of c.args.view.now known others) earlier given c.args.names.now (ap₂ enters (sym kind) taken.operation ∙ sym c.enters.ensures ∙ c.if-enters.false) noted
