-- The steps of reading a line.
use Rattle.std.{proofs.Common.{◌≡◌, ◌≢◌, ℕ, ◌+◌, ◌≤◌, List, [], ◌∷◌, ◌++◌, length, refl, arith, length-append, Option}, specs.Io.KnownBytes.Consumes, proofs.KnownBytes.Consumes-trans, proofs.lemmas.List.Elements.All-push}
use Rattle.text_ports.specs.{Lines.{line_feed, IsUnbroken, ReadsWholeLine}, declared.lines.LineIs.TheVariants.{Line, TooLong}}

-- the line has all the bytes that the reader lost, `count` bytes, and none is a line feed
pub record IsHeld (old new : Option (List ℕ)) (line : List ℕ) (count : ℕ) : Type 0 where
  pub consumed : Consumes old new line
  pub unbroken : IsUnbroken line
  pub count_is : length line ≡ count

-- one byte more
pub IsHeld-push : (old new next : Option (List ℕ)) (line : List ℕ) (count byte : ℕ) → IsHeld old new line count → Consumes new next (byte ∷ []) → byte ≢ line_feed → IsHeld old next (line ++ byte ∷ []) (count + 1)
IsHeld-push old new next line count byte held taken other = record {
  consumed = Consumes-trans old new next line (byte ∷ []) held.consumed taken;
  unbroken = All-push (λ b. b ≢ line_feed) line byte held.unbroken other;
  count_is = let e : length line ≡ count = held.count_is in omega (arith, length-append line (byte ∷ []));
}

-- a line feed behind the line
pub ReadsWholeLine-line : (old new next : Option (List ℕ)) (line : List ℕ) (count : ℕ) → IsHeld old new line count → Consumes new next (line_feed ∷ []) → count ≤ 256 → ReadsWholeLine old next Line line
ReadsWholeLine-line old new next line count held taken few =
    let short : length line ≤ 256 = let e : length line ≡ count = held.count_is in omega arith in
    (line ++ line_feed ∷ [], Consumes-trans old new next line (line_feed ∷ []) held.consumed taken, (refl, held.unbroken, short), tt)

-- the 257th byte
pub ReadsWholeLine-too_long : (old new next : Option (List ℕ)) (line after : List ℕ) (count byte : ℕ) → IsHeld old new line count → Consumes new next (byte ∷ []) → byte ≢ line_feed → length line ≡ 256 → after ≡ [] → ReadsWholeLine old next TooLong after
ReadsWholeLine-too_long old new next line after count byte held taken other full left =
    let more = IsHeld-push old new next line count byte held taken other in
    (line ++ byte ∷ [], more.consumed, (omega (arith, length-append line (byte ∷ [])), more.unbroken, left), tt)
