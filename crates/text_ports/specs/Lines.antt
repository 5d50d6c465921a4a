-- What reading a line takes from a port, and leaves in the buffer (ours).
use Rattle.std.specs.{Prelude.{ℕ, ◌≡◌, ◌≢◌, ◌+◌, ◌<◌, ◌≤◌, List, [], ◌∷◌, ◌++◌, Option, length, take, All, ⊤}, Io.KnownBytes.{Consumes, IsAtEnd}}
use Rattle.definitions.specs.InputLines.{without_cr}
use Rattle.text_ports.specs.declared.lines.LineIs.{LineIs, TheVariants.{Line, End, Cut, TooLong, Fault}}

abbrev pub line_feed : ℕ
line_feed = 10

-- no line feed is among the bytes
abbrev pub IsUnbroken : List ℕ → Type 0
IsUnbroken bytes = All (λ b. b ≢ line_feed) bytes

-- some bytes begin with a line of this length, and its line feed
abbrev pub IsFrontLine : ℕ → List ℕ → Type 0
IsFrontLine len bytes = (len ≤ 256) × (len < length bytes) × (take (len + 1) bytes ≡ take len bytes ++ line_feed ∷ []) × IsUnbroken (take len bytes)

-- the bytes that were taken, and the line in the buffer, at each answer
abbrev pub IsTakenAs : LineIs → List ℕ → List ℕ → Type 0
IsTakenAs Line taken line = (body : List ℕ) × (taken ≡ body ++ line_feed ∷ []) × IsUnbroken body × (length body ≤ 256) × (line ≡ without_cr body)
IsTakenAs End taken line = (taken ≡ []) × (line ≡ [])
IsTakenAs Cut taken line = (0 < length taken) × (length taken ≤ 256) × IsUnbroken taken × (line ≡ [])
IsTakenAs TooLong taken line = (length taken ≡ 257) × IsUnbroken taken × (line ≡ [])
IsTakenAs Fault taken line = (length taken ≤ 256) × IsUnbroken taken × (line ≡ [])

-- where the input ended, nothing is left of it
abbrev pub IsEndedBy : LineIs → Option (List ℕ) → Type 0
IsEndedBy Line rest = ⊤
IsEndedBy End rest = IsAtEnd rest
IsEndedBy Cut rest = IsAtEnd rest
IsEndedBy TooLong rest = ⊤
IsEndedBy Fault rest = ⊤

-- the reader lost the bytes of this answer and no others, and the buffer has this line
abbrev pub ReadsLine : Option (List ℕ) → Option (List ℕ) → LineIs → List ℕ → Type 0
ReadsLine old new answer line = (taken : List ℕ) × Consumes old new taken × IsTakenAs answer taken line × IsEndedBy answer new

-- the same where the buffer has all that stands in front of the line feed, a carriage return among it
abbrev pub IsTakenWhole : LineIs → List ℕ → List ℕ → Type 0
IsTakenWhole Line taken line = (taken ≡ line ++ line_feed ∷ []) × IsUnbroken line × (length line ≤ 256)
IsTakenWhole End taken line = IsTakenAs End taken line
IsTakenWhole Cut taken line = IsTakenAs Cut taken line
IsTakenWhole TooLong taken line = IsTakenAs TooLong taken line
IsTakenWhole Fault taken line = IsTakenAs Fault taken line

-- the reader lost the bytes of this answer and no others, and the buffer has all of this line
abbrev pub ReadsWholeLine : Option (List ℕ) → Option (List ℕ) → LineIs → List ℕ → Type 0
ReadsWholeLine old new answer line = (taken : List ℕ) × Consumes old new taken × IsTakenWhole answer taken line × IsEndedBy answer new
