use Rattle.std.{proofs.Common.{◌∙◌, Option, true≢false, ap₂, sym, subst}, specs.Prelude.IfSome}
use Rattle.definitions.specs.Settling.{settle, settled_all}
use Rattle.deck_assembler.{specs.Joins.FormerLines.{MeanAsViewed, WasLineIfAny}, specs.Joins.SharedNames.enters, specs.Joins.Walks.whole_of, specs.declared.former_lines.FormerLine.FormerLine, proofs.FormerLaws.beside-step, proofs.ResultLaws.{on_ok_any, on_ok_both}, proofs.SameLaws.never-rebound, proofs.WalkLaws.{silent-noted, stood-step}}
use Rattle.deck_assembler.proofs.deck_walk.Making.add_same.Goals as goal

pub returns-else-enters-clause-walked : goal.returns-else-enters-clause-walked
returns-else-enters-clause-walked c =
    on_ok_both c.copy_same.result (λ lined stood known others left before after is next_line walked.
    let whole = whole_of c.args.view.now known others in
    let sized = c.args.sized.now in
    let old = c.args.self.now in
    beside-step whole left sized old (record { lines = c.copy_same.new.self; names = old.names }) c.args.found before after is walked next_line (λ earlier given next has was so_far noted.
    let settled = settle whole.deck.kind (settled_all whole.deck.kind earlier) given in
    record {
      lined = lined known others earlier given is next has (subst (λ (f : Option FormerLine). WasLineIfAny whole.deck.kind f settled) c.in-Some.is was) so_far;
      noted = silent-noted whole earlier given old.names (ap₂ enters (sym c.kind.ensures) next.operation ∙ sym c.enters.ensures ∙ c.if-enters.false) noted;
      stood = stood ∙ stood-step old.lines.stood sized.cards whole.cards next.some next.within is.few;
    })) c.copy_same.ensures.lined c.copy_same.ensures.stood

-- nothing is bound otherwise
pub returns-else-enters-clause-anew : goal.returns-else-enters-clause-anew
returns-else-enters-clause-anew c = on_ok_any c.copy_same.result (λ known others earlier given old one is next found bound rebound.
    let view = c.args.view.now in
    let whole = whole_of view known others in
    let mean = subst (λ (f : Option FormerLine). IfSome f (λ line. MeanAsViewed line.bindings view)) found c.requires in
    absurd (true≢false (sym rebound ∙ never-rebound one.bindings view known others old (settle whole.deck.kind (settled_all whole.deck.kind earlier) given) is bound mean)))
