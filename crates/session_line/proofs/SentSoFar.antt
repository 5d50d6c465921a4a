-- A text that goes out piece by piece: what is gone, and what is left of it.
use Rattle.std.{proofs.Common.{ℕ, ◌≡◌, ◌+◌, List, [], ◌++◌, Option, length, refl, sym, ap, subst, ◌∙◌, append-nil, append_assoc, length-append}, specs.Io.KnownBytes.Appends, proofs.KnownBytes.{Appends-nil, Appends-trans}}
use Rattle.text_ports.proofs.SendSteps.{IsPart, part-first, part-second}

-- so many bytes are gone; they and the rest are all
pub record IsUpTo (old new : Option (List ℕ)) (sent : ℕ) (rest all : List ℕ) : Type 0 where
  pub gone : List ℕ
  pub appended : Appends old new gone
  pub whole : gone ++ rest ≡ all
  pub counted : sent ≡ length gone

-- at first nothing is gone
pub upto-start : (old : Option (List ℕ)) (all : List ℕ) → IsUpTo old old 0 all all
upto-start old all = record { gone = []; appended = Appends-nil old; whole = refl; counted = refl }

-- a piece more
pub upto-more : (old mid new : Option (List ℕ)) (sent : ℕ) (piece next rest all : List ℕ) → IsUpTo old mid sent rest all → rest ≡ piece ++ next → Appends mid new piece →
    IsUpTo old new (sent + length piece) next all
upto-more old mid new sent piece next rest all so split more = record {
  gone = so.gone ++ piece;
  appended = Appends-trans old mid new so.gone piece so.appended more;
  whole = append_assoc so.gone piece next ∙ ap (λ (l : List ℕ). so.gone ++ l) (sym split) ∙ so.whole;
  counted = ap (λ (n : ℕ). n + length piece) so.counted ∙ sym (length-append so.gone piece);
}

-- a piece more, of so many bytes
pub upto-next : (old mid new : Option (List ℕ)) (sent size : ℕ) (piece next rest all : List ℕ) → IsUpTo old mid sent rest all → rest ≡ piece ++ next → Appends mid new piece → size ≡ length piece →
    IsUpTo old new (sent + size) next all
upto-next old mid new sent size piece next rest all so split more counted =
    subst (λ (n : ℕ). IsUpTo old new (sent + n) next all) (sym counted) (upto-more old mid new sent piece next rest all so split more)

-- all of one text, and a part of another
pub part-both : (old mid new : Option (List ℕ)) (head body all : List ℕ) (sent more : ℕ) → all ≡ head ++ body → sent ≡ length head → Appends old mid head → IsPart mid new body more → IsPart old new all (sent + more)
part-both old mid new head body all sent more split counted first part =
    subst (λ (l : List ℕ). IsPart old new l (sent + more)) (sym split)
    (subst (λ (n : ℕ). IsPart old new (head ++ body) (n + more)) (sym counted) (part-second old mid new head head body more refl first part))

-- a part of the next piece
pub upto-part : (old mid new : Option (List ℕ)) (sent more : ℕ) (piece next rest all : List ℕ) → IsUpTo old mid sent rest all → rest ≡ piece ++ next → IsPart mid new piece more →
    IsPart old new all (sent + more)
upto-part old mid new sent more piece next rest all so split part =
    let whole : so.gone ++ (piece ++ next) ≡ all = ap (λ (l : List ℕ). so.gone ++ l) (sym split) ∙ so.whole in
    let joined : IsPart old new (so.gone ++ (piece ++ next)) (length so.gone + more) =
    part-second old mid new so.gone so.gone (piece ++ next) more refl so.appended (part-first mid new piece next more part) in
    subst (λ (l : List ℕ). IsPart old new l (sent + more)) whole (subst (λ (n : ℕ). IsPart old new (so.gone ++ (piece ++ next)) (n + more)) (sym so.counted) joined)

-- nothing is left
upto-all : (old new : Option (List ℕ)) (sent : ℕ) (rest all : List ℕ) (so : IsUpTo old new sent rest all) → rest ≡ [] → so.gone ≡ all
upto-all old new sent rest all so none = sym (append-nil so.gone) ∙ ap (λ (l : List ℕ). so.gone ++ l) (sym none) ∙ so.whole

pub upto-end : (old new : Option (List ℕ)) (sent : ℕ) (rest all : List ℕ) → IsUpTo old new sent rest all → rest ≡ [] → Appends old new all
upto-end old new sent rest all so none = subst (λ (l : List ℕ). Appends old new l) (upto-all old new sent rest all so none) so.appended

pub upto-length : (old new : Option (List ℕ)) (sent : ℕ) (rest all : List ℕ) → IsUpTo old new sent rest all → rest ≡ [] → sent ≡ length all
upto-length old new sent rest all so none = so.counted ∙ ap length (upto-all old new sent rest all so none)
