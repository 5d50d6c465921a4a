-- What is left of readers one after the other.
use Rattle.std.{proofs.Common.{ℕ, ◌≡◌, ◌+◌, ◌<◌, List, [], ◌∷◌, ◌++◌, Bool, true, false, not, length, drop, refl, sym, ap, ◌∙◌, subst, append_assoc, Option, None, Some, if◌then◌else◌, slice_index_or, slice_set}, proofs.lemmas.List.{drop_more, drop-set}, specs.Prelude.◌==◌, specs.Io.KnownBytes.{Consumes, prepend_known}}
use Rattle.text_ports.specs.Lines.{line_feed}
use Rattle.asm_main.specs.{Joins.Chains.{is_open_behind, joined, joined_with}, declared.chained.Part.Part}

-- a line behind two runs of bytes
open-append : (o : Bool) (xs ys : List ℕ) → is_open_behind o (xs ++ ys) ≡ is_open_behind (is_open_behind o xs) ys
open-append o [] ys = refl
open-append o (x ∷ xs) ys = open-append (not (x == line_feed)) xs ys

-- bytes in front of what is left
consumes-known : (bs ys : List ℕ) (rest : Option (List ℕ)) → Consumes (prepend_known (bs ++ ys) rest) (prepend_known ys rest) bs
consumes-known bs ys None = tt
consumes-known bs ys (Some zs) = append_assoc bs ys zs

consumes-either : (t : Bool) (bs ys : List ℕ) (rest : Option (List ℕ)) → Consumes (if t then Some (bs ++ ys) else prepend_known (bs ++ ys) rest) (if t then Some ys else prepend_known ys rest) bs
consumes-either true bs ys rest = refl
consumes-either false bs ys rest = consumes-known bs ys rest

-- a part gave bytes
pub joined_with-gave : (o : Bool) (old new rest : Option (List ℕ)) (bs : List ℕ) → Consumes old new bs → Consumes (joined_with o old rest) (joined_with (is_open_behind o bs) new rest) bs
joined_with-gave o None new rest bs p = tt
joined_with-gave o (Some xs) None rest bs p = absurd p
joined_with-gave o (Some xs) (Some ys) rest bs p =
    let whole : Consumes (joined_with o (Some (bs ++ ys)) rest) (joined_with (is_open_behind o bs) (Some ys) rest) bs =
    subst (λ (t : Bool). Consumes (if t then Some (bs ++ ys) else prepend_known (bs ++ ys) rest) (joined_with (is_open_behind o bs) (Some ys) rest) bs)
    (sym (open-append o bs ys)) (consumes-either (is_open_behind (is_open_behind o bs) ys) bs ys rest) in
    subst (λ (l : List ℕ). Consumes (joined_with o (Some l) rest) (joined_with (is_open_behind o bs) (Some ys) rest) bs) (sym p) whole

-- the part at a place gave bytes, and nothing else changed
pub joined-gave : {R : Type 0} (f : R → Option (List ℕ)) (parts : List (Part R)) (n : ℕ) (old new : Part R) (bs : List ℕ) → n < length parts → old ≡ slice_index_or parts n old → new.is_open ≡ is_open_behind old.is_open bs → Consumes (f old.reader) (f new.reader) bs → Consumes (joined f (drop n parts)) (joined f (drop n (slice_set parts n new))) bs
joined-gave f parts n old new bs within is line gave =
    let front : drop n parts ≡ old ∷ drop (n + 1) parts = drop_more parts n old within ∙ ap (λ (p : Part _). p ∷ drop (n + 1) parts) (sym is) in
    let after : drop n (slice_set parts n new) ≡ new ∷ drop (n + 1) parts = drop-set parts n new within in
    let both : Consumes (joined f (old ∷ drop (n + 1) parts)) (joined f (new ∷ drop (n + 1) parts)) bs =
    subst (λ (o : Bool). Consumes (joined f (old ∷ drop (n + 1) parts)) (joined_with o (f new.reader) (joined f (drop (n + 1) parts))) bs) (sym line)
    (joined_with-gave old.is_open (f old.reader) (f new.reader) (joined f (drop (n + 1) parts)) bs gave) in
    subst (λ (l : List (Part _)). Consumes (joined f l) (joined f (drop n (slice_set parts n new))) bs) (sym front)
    (subst (λ (l : List (Part _)). Consumes (joined f (old ∷ drop (n + 1) parts)) (joined f l) bs) (sym after) both)
