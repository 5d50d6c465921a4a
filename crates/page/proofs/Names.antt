-- Whether a text is a name and the digits behind it, by what it has behind the name.
use Rattle.std.{proofs.Common.{ℕ, ◌≡◌, ◌≢◌, ◌++◌, ◌∙◌, Bool, true, false, true≢false, List, sym, ap}, specs.Prelude.bytes_eq, specs.Bool.one_answer, proofs.lemmas.Slice.Eq.bytes_eq-Decides, proofs.lemmas.List.append_cancel_left}

-- it begins with the name: the rest shows
pub behind-name : (text name rest digits : List ℕ) (same : Bool) → text ≡ name ++ rest → same ≡ bytes_eq rest digits → same ≡ bytes_eq text (name ++ digits)
behind-name text name rest digits same begins tells =
    one_answer same (bytes_eq text (name ++ digits))
    (λ yes. begins ∙ ap (λ (end : List ℕ). name ++ end) ((bytes_eq-Decides rest digits).0 (sym tells ∙ yes)), λ is. tells ∙ (bytes_eq-Decides rest digits).1 (append_cancel_left name rest digits (sym begins ∙ is)))
    (bytes_eq-Decides text (name ++ digits))

-- it does not
pub no-name : (text name digits : List ℕ) → ((rest : List ℕ) → text ≢ name ++ rest) → false ≡ bytes_eq text (name ++ digits)
no-name text name digits none =
    one_answer false (bytes_eq text (name ++ digits))
    (λ no. absurd (true≢false (sym no)), λ is. absurd (none digits is))
    (bytes_eq-Decides text (name ++ digits))
