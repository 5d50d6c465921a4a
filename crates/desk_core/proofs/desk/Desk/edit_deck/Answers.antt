use Rattle.std.proofs.Common.{◌∙◌, ℕ, Option, inl, ap, subst, sym}
use Rattle.desk_core.{specs.Desks.is_named, specs.Joins.OwnNames.IsPlaceOf, specs.Joins.Calls.Changed, proofs.ChangeDone.{edit-refused, edit-done}}
use Rattle.desk_core.proofs.desk.Desk.edit_deck.Goals as goal

pub against_edits-requires : goal.against_edits-requires
against_edits-requires c = (c.place_of.ensures.some c.in-Some.place c.in-Some.is).1

pub returns-in-Some-against_edits : goal.returns-in-Some-against_edits
returns-in-Some-against_edits c =
    let is = subst (λ (place : Option ℕ). IsPlaceOf (is_named c.args.name.now) place c.args.self.now.decks) c.in-Some.is c.place_of.ensures in
    let both = edit-refused c.args.single c.args.name.now c.args.seen c.args.edits.now c.args.by.now c.args.self.now c.in-Some.place is c.in-Some-against_edits.refusal (sym c.against_edits.ensures ∙ c.in-Some-against_edits.is) in
    rw c.shown.ensures both

pub returns-in-Ok : goal.returns-in-Ok
returns-in-Ok c =
    let is = subst (λ (place : Option ℕ). IsPlaceOf (is_named c.args.name.now) place c.args.self.now.decks) c.in-Some.is c.place_of.ensures in
    let both = edit-done c.args.single c.args.name.now c.args.seen c.args.edits.now c.args.by.now c.args.self.now c.in-Some.place is (sym c.against_edits.ensures ∙ c.in_default-against_edits.is) in
    inl (ap (λ (version : ℕ). Changed version) (c.behind.ensures ∙ c.in-Ok.ensures.version) ∙ both.0, c.in-Ok.ensures.desk ∙ both.1)
