use Rattle.std.proofs.{Common.{◌≡◌, ℕ, ◌+◌, ◌-◌, ◌≤◌, ◌<◌, List, [], ◌∷◌, ◌++◌, length, take, drop, slice_set, sym, ap, ap₂, ◌∙◌, arith, append-nil}, lemmas.List.{drop-take, length-append, length-drop, length-take-le, take-set-le, take-take, take_more_set}, lemmas.Slice.{take-put_mid, take-put_mid_below}}
use borrow.Rule.Slice.PartMut.{put_mid}
use Rattle.definitions.specs.{Listing.card_lines, Numerals.digits_of}
use Rattle.deck_listing.proofs.card_line.CardLine.put.Goals as goal

-- bytes that begin with a number, with columns and a line feed behind it
module _ (bytes columns copy : List ℕ) (number : ℕ) (long : length bytes ≡ 88) (short : length columns ≤ 80) (same : copy ≡ columns)
    (front : take 6 bytes ≡ digits_of 10 5 number ++ 32 ∷ []) where
  abbrev filled : List ℕ
  filled = put_mid 6 (6 + length columns - 6) bytes copy

  abbrev ended : List ℕ
  ended = slice_set filled (6 + length columns) 10

  reaches : 6 + length columns < length filled
  reaches =
      let behind = drop (6 + length columns - 6) (drop 6 bytes) in
      let all : length filled ≡ length (take 6 bytes) + length (copy ++ behind) = length-append (take 6 bytes) (copy ++ behind) in
      omega (arith, all, length-append copy behind, length-take-le 6 bytes (omega (arith, long)), length-drop (6 + length columns - 6) (drop 6 bytes), length-drop 6 bytes, ap length same, long, short)

  shown : take (6 + length columns + 1) ended ≡ (digits_of 10 5 number ++ 32 ∷ columns) ++ 10 ∷ []
  shown =
      take_more_set filled (6 + length columns) 10 reaches
      ∙ ap (λ l. l ++ 10 ∷ []) (take-put_mid 6 (6 + length columns - 6) bytes copy (6 + length columns) (omega (arith, ap length same)) (omega (arith, long)) ∙ ap₂ (λ l r. l ++ r) front same)

  kept : take 6 ended ≡ digits_of 10 5 number ++ 32 ∷ []
  kept = take-set-le 6 filled (6 + length columns) 10 (omega arith) ∙ take-put_mid_below 6 (6 + length columns - 6) bytes copy 6 (omega arith) (omega (arith, long)) ∙ front

  digits : take 5 ended ≡ digits_of 10 5 number
  digits = sym (take-take 5 6 ended (omega arith)) ∙ ap (take 5) kept

  counted : (up : List ℕ) → up ≡ digits_of 10 5 (number + 1) → take 6 (up ++ drop 5 ended) ≡ digits_of 10 5 (number + 1) ++ 32 ∷ []
  counted up h = ap (λ d. take 6 (d ++ drop 5 ended)) h ∙ ap (λ l. digits_of 10 5 (number + 1) ++ l) (sym (drop-take 5 1 ended) ∙ ap (drop 5) kept)

pub invariant_of-self : goal.invariant_of-self
invariant_of-self c =
    let number = c.self.inside.before + 1 in
    let first = digits c.self.inside.bytes c.args.columns.now c.copy_from_slice.new.self number c.self.told c.requires.short c.copy_from_slice.ensures.after c.self.invariant in
    let five = ap length first in
    counted c.self.inside.bytes c.args.columns.now c.copy_from_slice.new.self number c.self.told c.requires.short c.copy_from_slice.ensures.after c.self.invariant
    c.add_one.new.digits (c.add_one.ensures number (first ∙ ap (λ n. digits_of 10 n number) (sym five)) ∙ ap (λ n. digits_of 10 n (number + 1)) five)

pub returns-clause-text : goal.returns-clause-text
returns-clause-text c =
    let number = c.self.inside.before + 1 in
    let line = (digits_of 10 5 number ++ 32 ∷ c.args.columns.now) ++ 10 ∷ [] in
    c.put.ensures
    ∙ ap (λ l. c.args.text.now ++ l) (shown c.self.inside.bytes c.args.columns.now c.copy_from_slice.new.self number c.self.told c.requires.short c.copy_from_slice.ensures.after c.self.invariant ∙ sym (append-nil line))
    ∙ ap (λ n. c.args.text.now ++ card_lines n (c.args.columns.now ∷ [])) c.self.view_is
