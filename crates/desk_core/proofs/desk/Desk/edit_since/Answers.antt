use Rattle.std.proofs.Common.{◌≡◌, ◌∙◌, ℕ, List, Option, inl, ap₂, sym, subst}
use Rattle.desk_core.{specs.Joins.Edits.Edit, specs.Desks.{Desk, is_named}, specs.Joins.OwnNames.IsPlaceOf, specs.Carrying.edit_since, specs.Joins.Turns.MayAnswer, specs.Joins.Calls.{Carried, Refused, OutOfMemory}, proofs.CarryDone.{edit-refused, edit-done, edit-starved, carried-applies}}
use Rattle.desk_core.proofs.desk.Desk.edit_since.Goals as goal

pub carry_at-requires : goal.carry_at-requires
carry_at-requires c = (c.place_of.ensures.some c.in-Some.place c.in-Some.is).1

pub version_at-before-requires : goal.version_at-before-requires
version_at-before-requires c = (c.place_of.ensures.some c.in-Some.place c.in-Some.is).1

pub edit_at-requires-clause-within : goal.edit_at-requires-clause-within
edit_at-requires-clause-within c = (c.place_of.ensures.some c.in-Some.place c.in-Some.is).1

pub returns-in-Some-carry_at : goal.returns-in-Some-carry_at
returns-in-Some-carry_at c =
    let desk = c.args.self.now in
    let is = subst (λ (place : Option ℕ). IsPlaceOf (is_named c.args.name.now) place desk.decks) c.in-Some.is c.place_of.ensures in
    let both = edit-refused c.args.single c.args.name.now c.args.by.now c.args.seen desk c.in-Some.place is c.args.edits.now c.carry_at.result c.in-Some-carry_at.refusal c.carry_at.ensures.refusal c.in-Some-carry_at.is in
    rw c.shown.ensures both

pub edit_at-requires-clause-applies : goal.edit_at-requires-clause-applies
edit_at-requires-clause-applies c =
    let desk = c.args.self.now in
    let is = subst (λ (place : Option ℕ). IsPlaceOf (is_named c.args.name.now) place desk.decks) c.in-Some.is c.place_of.ensures in
    (carried-applies c.args.single c.args.name.now c.args.by.now c.args.seen desk c.in-Some.place is c.args.edits.now c.carry_at.result c.carry_at.new.edits c.carry_at.ensures.refusal c.in_default-carry_at.is (c.carry_at.ensures.carried c.in_default-carry_at.is)).0

pub edit_at-requires-clause-room : goal.edit_at-requires-clause-room
edit_at-requires-clause-room c =
    let desk = c.args.self.now in
    let is = subst (λ (place : Option ℕ). IsPlaceOf (is_named c.args.name.now) place desk.decks) c.in-Some.is c.place_of.ensures in
    (carried-applies c.args.single c.args.name.now c.args.by.now c.args.seen desk c.in-Some.place is c.args.edits.now c.carry_at.result c.carry_at.new.edits c.carry_at.ensures.refusal c.in_default-carry_at.is (c.carry_at.ensures.carried c.in_default-carry_at.is)).1

pub returns-in-Ok-edit_at : goal.returns-in-Ok-edit_at
returns-in-Ok-edit_at c =
    let desk = c.args.self.now in
    let is = subst (λ (place : Option ℕ). IsPlaceOf (is_named c.args.name.now) place desk.decks) c.in-Some.is c.place_of.ensures in
    let told : c.new.result ≡ c.carry_at.new.edits = c.new.ensures ∙ c.in-Ok.ensures in
    let both = edit-done c.args.single c.args.name.now c.args.by.now c.args.seen desk c.in-Some.place is c.args.edits.now c.carry_at.result c.carry_at.new.edits c.version_at-before.result c.carry_at.ensures.refusal c.in_default-carry_at.is
    (c.carry_at.ensures.carried c.in_default-carry_at.is) c.version_at-before.ensures in
    inl (ap₂ (λ (version : ℕ) (edits : List Edit). Carried version c.version_at-before.result edits) c.in-Ok-edit_at.ensures.version told ∙ both.0, c.in-Ok-edit_at.ensures.desk ∙ both.1)

pub returns-in_default-copied_edits : goal.returns-in_default-copied_edits
returns-in_default-copied_edits c =
    let desk = c.args.self.now in
    let is = subst (λ (place : Option ℕ). IsPlaceOf (is_named c.args.name.now) place desk.decks) c.in-Some.is c.place_of.ensures in
    edit-starved c.args.single c.args.name.now c.args.by.now c.args.seen desk c.in-Some.place is c.args.edits.now c.carry_at.result c.carry_at.new.edits c.carry_at.ensures.refusal c.in_default-carry_at.is (c.carry_at.ensures.carried c.in_default-carry_at.is)

pub returns-in-Err : goal.returns-in-Err
returns-in-Err c =
    let desk = c.args.self.now in
    let is = subst (λ (place : Option ℕ). IsPlaceOf (is_named c.args.name.now) place desk.decks) c.in-Some.is c.place_of.ensures in
    subst (λ (next : Desk). MayAnswer desk (edit_since c.args.single c.args.name.now c.args.seen c.args.edits.now c.args.by.now desk) (Refused OutOfMemory) next) (sym c.in-Err.ensures.desk)
    (edit-starved c.args.single c.args.name.now c.args.by.now c.args.seen desk c.in-Some.place is c.args.edits.now c.carry_at.result c.carry_at.new.edits c.carry_at.ensures.refusal c.in_default-carry_at.is (c.carry_at.ensures.carried c.in_default-carry_at.is))
