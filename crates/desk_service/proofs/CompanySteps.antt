-- Who is listed of some seats, seat by seat.
use Rattle.std.proofs.{Common.{ℕ, ◌≡◌, ◌+◌, ◌<◌, List, [], ◌∷◌, ◌++◌, Option, length, take, get_or, sym, ap, ◌∙◌, arith, append-nil, append_assoc, length-take}, lemmas.List.take_more}
use Rattle.session_line.specs.declared.greetings.Connected.{Connected}
use Rattle.desk_service.specs.Company.{seated, listed_at, listed_from}

-- seats, and others behind them
listed-append : (editors at number : ℕ) (name : List ℕ) (seats others : List (Option (List ℕ))) →
    listed_from editors at number name (seats ++ others) ≡ listed_from editors at number name seats ++ listed_from editors (at + length seats) number name others
listed-append editors at number name [] others = ap (λ (n : ℕ). listed_from editors n number name others) (let e : at ≡ at + 0 = omega arith in e)
listed-append editors at number name (seat ∷ seats) others =
    ap (λ (l : List Connected). listed_at editors at (seated at number name seat) ++ l) (listed-append editors (at + 1) number name seats others)
    ∙ ap (λ (n : ℕ). listed_at editors at (seated at number name seat) ++ (listed_from editors (at + 1) number name seats ++ listed_from editors n number name others))
    (let e : at + 1 + length seats ≡ at + length (seat ∷ seats) = omega arith in e)
    ∙ sym (append_assoc (listed_at editors at (seated at number name seat)) (listed_from editors (at + 1) number name seats) (listed_from editors (at + length (seat ∷ seats)) number name others))

-- one seat more
pub listed-more : (editors number : ℕ) (name : List ℕ) (seats : List (Option (List ℕ))) (i : ℕ) (seat : Option (List ℕ)) → i < length seats → seat ≡ get_or seats i seat →
    listed_from editors 0 number name (take (i + 1) seats) ≡ listed_from editors 0 number name (take i seats) ++ listed_at editors i (seated i number name seat)
listed-more editors number name seats i seat within is =
    let before = listed_from editors 0 number name (take i seats) in
    ap (listed_from editors 0 number name) (take_more seats i seat within)
    ∙ listed-append editors 0 number name (take i seats) (get_or seats i seat ∷ [])
    ∙ ap (λ (n : ℕ). before ++ listed_from editors n number name (get_or seats i seat ∷ [])) (let e : 0 + length (take i seats) ≡ i = omega (arith, length-take i seats, within) in e)
    ∙ ap (λ (s : Option (List ℕ)). before ++ listed_from editors i number name (s ∷ [])) (sym is)
    ∙ ap (λ (l : List Connected). before ++ l) (append-nil (listed_at editors i (seated i number name seat)))
