-- What is kept of a deck's changes, as two lists.
use Rattle.std.{proofs.Common.{◌≡◌, ℕ, zero, suc, ◌+◌, ◌-◌, ◌≤◌, ◌<◌, Bool, true, false, cond, not, List, [], ◌∷◌, ◌++◌, length, take, drop, get_or, Some, None, refl, sym, ap, ap₂, subst, ◌∙◌, arith, nat_lt, length-drop}, proofs.Math.ListN.drop_of_length-le, proofs.Math.Seq.drop-nil, specs.Prelude.{position, min}, specs.List.position_or_len, proofs.lemmas.Bool.{ltb-true, ltb-false}, proofs.lemmas.List.length-take, proofs.lemmas.Option.cond_some}
use Rattle.cards.specs.declared.carrying.MadeEdit.{MadeEdit}
use Rattle.desk_core.{specs.Joins.Language.Card, specs.Joins.Edits.{Edit, edited}, specs.declared.past.Back.Back, specs.Past.{KeptEdit, undo_of, kept_edits, last_version, behind, change_at, backs_of}, specs.Carrying.made_in, specs.Joins.Stored.{kept_both, made_edits, backs_made, backs_from}, proofs.PlaceLaws.not-taken}

-- two lists of one length, one behind the other
pub kept-append : (made more : List MadeEdit) (backs others : List Back) → length backs ≡ length made → kept_both (made ++ more) (backs ++ others) ≡ kept_both made backs ++ kept_both more others
kept-append [] more [] others same = refl
kept-append [] more (b ∷ backs) others same = cc
kept-append (m ∷ made) more [] others same = cc
kept-append (m ∷ made) more (b ∷ backs) others same =
    ap (λ (kept : List KeptEdit). record { version = m.version; edit = m.edit; back = b.edit; by = b.by } ∷ kept) (kept-append made more backs others (omega (arith, same)))

pub kept-take : (count : ℕ) (made : List MadeEdit) (backs : List Back) → kept_both (take count made) (take count backs) ≡ take count (kept_both made backs)
kept-take zero made backs = refl
kept-take (suc count) [] backs = refl
kept-take (suc count) (m ∷ made) [] = refl
kept-take (suc count) (m ∷ made) (b ∷ backs) = ap (λ (kept : List KeptEdit). record { version = m.version; edit = m.edit; back = b.edit; by = b.by } ∷ kept) (kept-take count made backs)

kept-none : (made : List MadeEdit) → kept_both made [] ≡ []
kept-none [] = refl
kept-none (m ∷ made) = refl

pub kept-drop : (count : ℕ) (made : List MadeEdit) (backs : List Back) → kept_both (drop count made) (drop count backs) ≡ drop count (kept_both made backs)
kept-drop zero made backs = refl
kept-drop (suc count) [] backs = refl
kept-drop (suc count) (m ∷ made) [] = kept-none (drop count made)
kept-drop (suc count) (m ∷ made) (b ∷ backs) = kept-drop count made backs

pub kept-length : (made : List MadeEdit) (backs : List Back) → length backs ≡ length made → length (kept_both made backs) ≡ length made
kept-length [] backs same = refl
kept-length (m ∷ made) [] same = cc
kept-length (m ∷ made) (b ∷ backs) same = ap suc (kept-length made backs (omega (arith, same)))

-- a batch
pub kept-batch : (version : ℕ) (by : List ℕ) (edits : List Edit) (cards : List Card) → kept_both (made_edits version edits) (backs_made by edits cards) ≡ kept_edits version by edits cards
kept-batch version by [] cards = refl
kept-batch version by (edit ∷ edits) cards =
    ap (λ (kept : List KeptEdit). record { version = version; edit = edit; back = undo_of edit cards; by = by } ∷ kept) (kept-batch version by edits (edited cards edit))

pub batch-length : (version : ℕ) (by : List ℕ) (edits : List Edit) (cards : List Card) → length (backs_made by edits cards) ≡ length (made_edits version edits)
batch-length version by [] cards = refl
batch-length version by (edit ∷ edits) cards = ap suc (batch-length version by edits (edited cards edit))

-- the version of the last of some
pub last-is : (version : ℕ) (count : ℕ) (made : List MadeEdit) (backs : List Back) (one : MadeEdit) → length backs ≡ length made → count < length made → one ≡ get_or made count one →
    last_version version (take (suc count) (kept_both made backs)) ≡ one.version
last-is version count [] backs one same within is = absurd (omega (arith, within))
last-is version count (m ∷ made) [] one same within is = cc
last-is version zero (m ∷ made) (b ∷ backs) one same within is = ap (λ (x : MadeEdit). x.version) (sym is)
last-is version (suc count) (m ∷ made) (b ∷ backs) one same within is = last-is m.version count made backs one (omega (arith, same)) (omega (arith, within)) is

-- whether an edit that was made is behind a version
abbrev pub is_behind : ℕ → MadeEdit → Bool
is_behind version one = nat_lt version one.version

behind-head : (later : Bool) (version count : ℕ) (one : KeptEdit) (kept : List KeptEdit) → behind version kept ≡ drop count kept → cond later (one ∷ kept) (behind version kept) ≡ drop (cond (not later) (1 + count) 0) (one ∷ kept)
behind-head true version count one kept rest = refl
behind-head false version count one kept rest =
    let more : suc count ≡ 1 + count = omega arith in
    rest ∙ ap (λ (n : ℕ). drop n (one ∷ kept)) more

-- the edits behind a version begin with the first of a later one
behind-from : (version : ℕ) (made : List MadeEdit) (backs : List Back) → behind version (kept_both made backs) ≡ drop (position_or_len (is_behind version) made) (kept_both made backs)
behind-from version [] backs = refl
behind-from version (m ∷ made) [] = sym (drop-nil (position_or_len (is_behind version) (m ∷ made)))
behind-from version (m ∷ made) (b ∷ backs) =
    behind-head (nat_lt version m.version) version (position_or_len (is_behind version) made) (record { version = m.version; edit = m.edit; back = b.edit; by = b.by }) (kept_both made backs) (behind-from version made backs)

-- where one is found
pub behind-some : (version place : ℕ) (made : List MadeEdit) (backs : List Back) → position (is_behind version) made ≡ Some place →
    (behind version (kept_both made backs) ≡ drop place (kept_both made backs)) × (place < length made)
behind-some version place made backs found =
    let both = cond_some (nat_lt (position_or_len (is_behind version) made) (length made)) (position_or_len (is_behind version) made) place found in
    let within = ltb-true (position_or_len (is_behind version) made) (length made) both.0 in
    (behind-from version made backs ∙ ap (λ (n : ℕ). drop n (kept_both made backs)) both.1, subst (λ (n : ℕ). n < length made) both.1 within)

-- and where none is
pub behind-none : (version : ℕ) (made : List MadeEdit) (backs : List Back) → length backs ≡ length made → position (is_behind version) made ≡ None →
    behind version (kept_both made backs) ≡ drop (length made) (kept_both made backs)
behind-none version made backs same none =
    let all = kept-length made backs same in
    let beyond = ltb-false (position_or_len (is_behind version) made) (length made) (not-taken _ _ none) in
    behind-from version made backs ∙ (drop_of_length-le (kept_both made backs) (omega (arith, all, beyond)) ∙ sym (drop_of_length-le (kept_both made backs) (omega (arith, all))))

-- and so by the edits that were made alone
pub behind-at : (version count : ℕ) (made seen : List MadeEdit) (backs : List Back) → seen ≡ made → length backs ≡ length made →
    ((others : List Back) → length others ≡ length seen → behind version (kept_both seen others) ≡ drop count (kept_both seen others)) → behind version (kept_both made backs) ≡ drop count (kept_both made backs)
behind-at version count made seen backs same counted is =
    subst (λ (ms : List MadeEdit). behind version (kept_both ms backs) ≡ drop count (kept_both ms backs)) same (is backs (counted ∙ ap length (sym same)))

pub drop-same : (count : ℕ) (made : List MadeEdit) (backs : List Back) → length backs ≡ length made → length (drop count backs) ≡ length (drop count made)
drop-same count made backs same = length-drop count backs ∙ (ap (λ (n : ℕ). n - count) same ∙ sym (length-drop count made))

-- what takes edits back
pub backs-kept : (made : List MadeEdit) (backs : List Back) → length backs ≡ length made → backs_of (kept_both made backs) ≡ backs_from backs
backs-kept [] [] same = refl
backs-kept [] (b ∷ backs) same = cc
backs-kept (m ∷ made) [] same = cc
backs-kept (m ∷ made) (b ∷ backs) same = ap (λ (edits : List Edit). edits ++ b.edit ∷ []) (backs-kept made backs (omega (arith, same)))

-- the edits that were made
pub made-kept : (made : List MadeEdit) (backs : List Back) → length backs ≡ length made → made_in (kept_both made backs) ≡ made
made-kept [] backs same = refl
made-kept (m ∷ made) [] same = cc
made-kept (m ∷ made) (b ∷ backs) same = ap (λ (more : List MadeEdit). m ∷ more) (made-kept made backs (omega (arith, same)))

take-same : (count : ℕ) (made : List MadeEdit) (backs : List Back) → length backs ≡ length made → length (take count backs) ≡ length (take count made)
take-same count made backs same = length-take count backs ∙ (ap (min count) same ∙ sym (length-take count made))

-- what takes back the change of a version: it stands between the places behind the version before and behind this one
pub backs-between : (version first next : ℕ) (made : List MadeEdit) (backs : List Back) → length backs ≡ length made → first ≤ length made → next ≤ length made →
    behind (version - 1) (kept_both made backs) ≡ drop first (kept_both made backs) → behind version (kept_both made backs) ≡ drop next (kept_both made backs) →
    backs_from (take (next - first) (drop first backs)) ≡ backs_of (change_at version (kept_both made backs))
backs-between version first next made backs same low high before after =
    let kept : List KeptEdit = kept_both made backs in
    let all = kept-length made backs same in
    let left = length-drop first kept in
    let rest = length-drop next kept in
    let count : length (behind (version - 1) kept) - length (behind version kept) ≡ next - first =
    ap₂ (λ (a b : ℕ). a - b) (ap (λ (k : List KeptEdit). length k) before) (ap (λ (k : List KeptEdit). length k) after) ∙ omega (arith, all, left, rest, low, high) in
    let change : change_at version kept ≡ take (next - first) (drop first kept) = ap₂ (λ (n : ℕ) (k : List KeptEdit). take n k) count before in
    let parts : take (next - first) (drop first kept) ≡ kept_both (take (next - first) (drop first made)) (take (next - first) (drop first backs)) =
    sym (kept-take (next - first) (drop first made) (drop first backs) ∙ ap (λ (k : List KeptEdit). take (next - first) k) (kept-drop first made backs)) in
    sym (ap (λ (k : List KeptEdit). backs_of k) (change ∙ parts)
    ∙ backs-kept (take (next - first) (drop first made)) (take (next - first) (drop first backs)) (take-same (next - first) (drop first made) (drop first backs) (drop-same first made backs same)))
