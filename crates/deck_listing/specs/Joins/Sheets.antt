-- Texts that lines are put to, as contracts see them: how much room there is, and behind it all bytes (ours).
use Rattle.std.specs.Prelude.{ℕ, ◌≡◌, ◌≤◌, ◌<◌, ◌++◌, Bool, true, false, List, [], ◌∷◌, length}

-- the room of a sheet
abbrev pub room_of : List ℕ → ℕ
room_of [] = 0
room_of (room ∷ text) = room

-- the text of a sheet
abbrev pub text_of : List ℕ → List ℕ
text_of [] = []
text_of (room ∷ text) = text

-- what is held lies in the room, and all is held unless all that was put needs more
pub record IsSheet (room capacity : ℕ) (held : List ℕ) (is_over : Bool) (over : List ℕ) : Type 0 where
  pub within : length held ≤ room
  pub roomy : room ≤ capacity
  pub whole : is_over ≡ false → over ≡ []
  pub full : is_over ≡ true → room < length (held ++ over)
