-- The door of a session (ours): a desk, whose changes are kept, and the ends that the session has at its service.
use Rattle.std.specs.Prelude.{◌≡◌, None}
use Rattle.desk_core.specs.declared.{calls.Call.{Call, TheVariants.Ask}, replies.Reply.Reply}
use Rattle.session_line.specs.DeskRelations.{DeskRelations}
use Rattle.kept_desk.specs.{EndsRelations.EndsRelations, Greeting.GreetsAmong, Keeping.MakesChange, Waiting.AwaitsPublication}

-- what its calls make of the desk and the ends, by what one call makes of the desk: a question is the desk's, and the ends are not asked; of a session that begins the ends are given that it has no name yet
abbrev pub door_of : {C E : Type 0} → (C → Call → Reply → C → Type 0) → EndsRelations E → DeskRelations (C × E)
door_of makes ends = record {
  changes = λ old change told new. MakesChange makes ends change old.0 old.1 told new.0 new.1;
  asks = λ old question reply new. makes old.0 (Ask question) reply new.0 × (new.1 ≡ old.1);
  awaits = λ old version reply new. AwaitsPublication makes ends.sleeps version old.0 old.1 reply new.0 new.1;
  greets = λ old name greeting new. GreetsAmong makes ends name old.0 old.1 greeting new.0 new.1;
  begins = λ old new. (new.0 ≡ old.0) × ends.names old.1 None new.1;
}
