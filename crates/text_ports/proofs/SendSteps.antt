-- The steps of sending several texts one after the other.
use Rattle.std.{proofs.Common.{ℕ, ◌≡◌, ◌+◌, ◌<◌, ◌≤◌, List, [], ◌∷◌, ◌++◌, Option, length, take, drop, get_or, refl, sym, ap, subst, ◌∙◌, arith, append-nil, length-append, take-append-drop}, specs.Prelude.flat_map, specs.Io.KnownBytes.Appends, proofs.KnownBytes.Appends-trans, proofs.lemmas.Grind.flat_map-append, proofs.lemmas.List.{take_more, at_drop_more, take-append-le, take_at, drop_at}, proofs.Math.Seq.take-add}

-- a part of a text that went out, but not all of it
abbrev pub IsPart : Option (List ℕ) → Option (List ℕ) → List ℕ → ℕ → Type 0
IsPart old new text sent = (sent < length text) × Appends old new (take sent text)

-- a part of the first text is a part of both
pub part-first : (old new : Option (List ℕ)) (head body : List ℕ) (sent : ℕ) → IsPart old new head sent → IsPart old new (head ++ body) sent
part-first old new head body sent part =
    let within : sent ≤ length head = omega (arith, part.0) in
    (omega (arith, part.0, length-append head body), subst (λ l. Appends old new l) (sym (take-append-le sent head body within)) part.1)

-- the first bytes of two texts
take-both : (head body : List ℕ) (more : ℕ) → take (length head + more) (head ++ body) ≡ head ++ take more body
take-both head body more =
    take-add (length head) more (head ++ body)
    ∙ ap (λ (l : List ℕ). l ++ take more (drop (length head) (head ++ body))) (take_at head body (length head) refl)
    ∙ ap (λ (l : List ℕ). head ++ take more l) (drop_at head body (length head) refl)

-- all of the first text and a part of the second
part-behind : (old mid new : Option (List ℕ)) (head body : List ℕ) (sent more : ℕ) → sent ≡ length head → Appends old mid head → IsPart mid new body more →
    IsPart old new (head ++ body) (sent + more)
part-behind old mid new head body sent more count first part =
    let cut : take (sent + more) (head ++ body) ≡ head ++ take more body = ap (λ (n : ℕ). take (n + more) (head ++ body)) count ∙ take-both head body more in
    (omega (arith, part.0, count, length-append head body), subst (λ l. Appends old new l) (sym cut) (Appends-trans old mid new head (take more body) first part.1))

-- the same, where the first text is shown otherwise
pub part-second : (old mid new : Option (List ℕ)) (head bytes body : List ℕ) (more : ℕ) → bytes ≡ head → Appends old mid bytes → IsPart mid new body more →
    IsPart old new (head ++ body) (length bytes + more)
part-second old mid new head bytes body more same first part =
    part-behind old mid new head body (length bytes) more (ap length same) (subst (λ l. Appends old mid l) same first) part

-- the texts of one thing more
pub texts-more : {A : Type 0} (f : A → List ℕ) (xs : List A) (i : ℕ) (x : A) → i < length xs → x ≡ get_or xs i x → flat_map f (take (i + 1) xs) ≡ flat_map f (take i xs) ++ f x
texts-more f xs i x within is =
    ap (flat_map f) (take_more xs i x within)
    ∙ flat_map-append f (take i xs) (get_or xs i x ∷ [])
    ∙ ap (λ (l : List ℕ). flat_map f (take i xs) ++ l) (append-nil (f (get_or xs i x)))
    ∙ ap (λ y. flat_map f (take i xs) ++ f y) (sym is)

-- all texts: those so far, this one, and those behind it
texts-split : {A : Type 0} (f : A → List ℕ) (xs : List A) (i : ℕ) (x : A) → i < length xs → x ≡ get_or xs i x →
    flat_map f xs ≡ flat_map f (take i xs) ++ (f x ++ flat_map f (drop (i + 1) xs))
texts-split f xs i x within is =
    ap (flat_map f) (sym (take-append-drop i xs))
    ∙ flat_map-append f (take i xs) (drop i xs)
    ∙ ap (λ (l : List ℕ). flat_map f (take i xs) ++ l) (at_drop_more (flat_map f) xs i x within)
    ∙ ap (λ y. flat_map f (take i xs) ++ (f y ++ flat_map f (drop (i + 1) xs))) (sym is)

-- a text that went out
pub Appends-text : {A : Type 0} (f : A → List ℕ) (old mid new : Option (List ℕ)) (xs : List A) (i : ℕ) (x : A) (text : List ℕ) → i < length xs → x ≡ get_or xs i x → text ≡ f x →
    Appends old mid (flat_map f (take i xs)) → Appends mid new text → Appends old new (flat_map f (take (i + 1) xs))
Appends-text f old mid new xs i x text within is same first second =
    subst (λ l. Appends old new l) (ap (λ (l : List ℕ). flat_map f (take i xs) ++ l) same ∙ sym (texts-more f xs i x within is))
    (Appends-trans old mid new (flat_map f (take i xs)) text first second)

-- a text of which a part went out
pub part-text : {A : Type 0} (f : A → List ℕ) (old mid new : Option (List ℕ)) (xs : List A) (i sent more : ℕ) (x : A) (text : List ℕ) → i < length xs → x ≡ get_or xs i x → text ≡ f x →
    sent ≡ length (flat_map f (take i xs)) → Appends old mid (flat_map f (take i xs)) → IsPart mid new text more → IsPart old new (flat_map f xs) (sent + more)
part-text f old mid new xs i sent more x text within is same count first part =
    let behind = flat_map f (drop (i + 1) xs) in
    let front = flat_map f (take i xs) in
    let whole : front ++ (text ++ behind) ≡ flat_map f xs = ap (λ (l : List ℕ). front ++ (l ++ behind)) same ∙ sym (texts-split f xs i x within is) in
    subst (λ (l : List ℕ). IsPart old new l (sent + more)) whole
    (part-behind old mid new front (text ++ behind) sent more count first (part-first mid new text behind more part))
