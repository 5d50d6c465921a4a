use Rattle.std.{proofs.Common.{◌≡◌, ◌∙◌, ◌+◌, ◌≤◌, [], Option, Some, length, reverse, refl, ap₂, sym, subst, arith}, specs.Prelude.IfSome, proofs.lemmas.List.length-reverse}
use Rattle.definitions.specs.{DeckKinds.{up_to_end, behind_end}, Lengths.rows_of, Laws.Rebound.context_from, Statements.statements_of}
use Rattle.deck_objects.specs.declared.object.ObjectParts.{ObjectParts}
use Rattle.deck_assembler.{specs.Joins.DeckParts.sized_in, specs.Joins.DueCodes.IsDueBeside, specs.Joins.Formers.known_in, specs.Joins.Puttings.CountsPartsDue, specs.Joins.Rebindings.AreBindings, specs.declared.former_lines.FormerLines.FormerLines, proofs.DueCodeCounts.{anew-of-deck, due-of-deck}, specs.Joins.Walks.{Whole, IsWhole}, proofs.FormerLaws.chosen-beside, proofs.PartLaws.{AreMade, parts-of}, proofs.PieceCounts.sized-length}
use Rattle.deck_assembler.proofs.object_part_list.parts_beside.Goals.{After-walk}
use Rattle.deck_assembler.proofs.object_part_list.parts_beside.Goals as goal

-- all of the deck, and its parts
abbrev whole : After-walk → Whole
whole c = let all = statements_of (reverse c.args.cards.now) in record { cards = c.args.cards.now; deck = c.args.deck.now; rows = c.in_ok-bases.bases; known = up_to_end all; others = behind_end all }

is_whole : (c : After-walk) → IsWhole (whole c)
is_whole c = record {
  sized = c.requires.deck;
  rows = c.in_ok-bases.ensures.rows ∙ ap₂ rows_of (c.lengths.ensures ∙ c.requires.deck.lengths) (c.literals-2.ensures ∙ c.requires.deck.literals);
  few = c.requires.few;
}

-- each statement up to END was sized
all_sized : (c : After-walk) → length (sized_in c.args.deck.now.pieces) ≡ length (known_in c.args.cards.now)
all_sized c =
    let w = whole c in
    sized-length w.deck.kind _ 0 w.cards (sized_in w.deck.pieces) (reverse w.known) w.deck.behind (reverse w.others) c.requires.deck.sized ∙ length-reverse w.known

counted : (c : After-walk) → c.walk.new.meter.coded ≤ c.args.meter.now.coded + length (known_in c.args.cards.now)
counted c = omega (arith, all_sized c, c.walk.ensures.coded)

pub returns-in_err-made-clause-coded : goal.returns-in_err-made-clause-coded
returns-in_err-made-clause-coded c = counted (goal.at.returns-in_err-made-clause-coded c).After-walk

pub returns-in_err-entries-clause-coded : goal.returns-in_err-entries-clause-coded
returns-in_err-entries-clause-coded c = counted (goal.at.returns-in_err-entries-clause-coded c).After-walk

pub returns-clause-coded : goal.returns-clause-coded
returns-clause-coded c = counted (goal.at.returns-clause-coded c).After-walk

pub returns-clause-all : goal.returns-clause-all
returns-clause-all c = λ none room.
    let sized = all_sized (goal.at.returns-clause-all c).After-walk in
    let coded = c.in_ok-made.ensures.all (c.lines_or_none.ensures.none none) (omega (arith, room, sized)) in
    omega (arith, sized, coded)

pub returns-clause-parts : goal.returns-clause-parts
returns-clause-parts c =
    λ name.
    let made = c.in_ok-made.made in
    let before = (goal.at.returns-clause-parts c).After-walk in
    let w = whole before in
    let parts : ObjectParts = record {
      kind = c.kind.result;
      lines = made.lines.lines;
      fields = made.lines.fields;
      bases = c.in_ok-bases.bases;
      literals = c.in_ok-literals.literals;
      entries = c.in_ok-entries.entries;
      externals = c.in_ok-externals.externals;
    } in
    let are : AreMade w made parts = record {
      kind = c.kind.ensures;
      rows = refl;
      literals = c.in_ok-literals.ensures.items ∙ c.words.ensures ∙ c.literals.ensures;
      lines = refl;
      fields = refl;
      entries = c.in_ok-entries.ensures;
      externals = c.in_ok-externals.ensures.items ∙ c.externals.ensures;
    } in
    let beside = chosen-beside w.deck.kind w.cards w.known c.args.former c.lines_or_none.result c.requires.beside c.lines_or_none.ensures.some c.lines_or_none.ensures.none in
    parts-of name w made parts (is_whole before) (c.in_ok-made.ensures.done w.known w.others (is_whole before) beside) are refl refl

chosen : (c : After-walk) (lines : FormerLines) → c.args.former ≡ Some lines → c.lines_or_none.result ≡ lines
chosen c lines given = subst (λ (former : Option FormerLines). IfSome former (λ l. c.lines_or_none.result ≡ l)) given c.lines_or_none.ensures.some

due : (c : After-walk) → CountsPartsDue c.args.deck.now.kind c.args.cards.now c.args.former c.args.meter.now c.walk.new.meter
due c = λ lines plan given planned beside.
    let w = whole c in
    let now = subst (λ l. IsDueBeside w.deck.kind w.cards plan [] (reverse w.known) 0 l) (sym (chosen c lines given)) beside in
    subst (λ n. c.walk.new.meter.coded ≤ c.args.meter.now.coded + n) (due-of-deck w plan (is_whole c) refl) (c.walk.ensures.due w.known w.others plan (is_whole c) planned now)

pub returns-in_err-made-clause-due : goal.returns-in_err-made-clause-due
returns-in_err-made-clause-due c = due (goal.at.returns-in_err-made-clause-due c).After-walk

pub returns-in_err-entries-clause-due : goal.returns-in_err-entries-clause-due
returns-in_err-entries-clause-due c = due (goal.at.returns-in_err-entries-clause-due c).After-walk

pub returns-clause-due : goal.returns-clause-due
returns-clause-due c = due (goal.at.returns-clause-due c).After-walk

pub returns-clause-anew : goal.returns-clause-anew
returns-clause-anew c = λ lines old given bound.
    let before = (goal.at.returns-clause-anew c).After-walk in
    let w = whole before in
    anew-of-deck w old c.args.meter.now.coded c.walk.new.meter.coded (is_whole before) refl
    (c.in_ok-made.ensures.anew w.known w.others (context_from (known_in old)) (is_whole before)
    (subst (λ (l : FormerLines). AreBindings l.bindings (context_from (known_in old))) (sym (chosen before lines given)) bound))
