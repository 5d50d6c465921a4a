-- What goes out of a queue, record by record.
use Rattle.std.proofs.Common.{ℕ, ◌≡◌, ◌+◌, List, [], ◌∷◌, ◌++◌, Option, Some, sym, subst}
use Rattle.journal.specs.{declared.queue.Unwritten.Unwritten, Records.text_with_version, Queues.{GoOut, start, more, draft_queued}}

-- nothing
pub GoOut-start : (places : List (Option Unwritten)) (first : ℕ) (drafts : List (List ℕ)) (text : List ℕ) → drafts ≡ [] → text ≡ [] → GoOut places first drafts text first
GoOut-start places first drafts text no_draft none =
    let P : List ℕ → Type 0 = λ (t : List ℕ). GoOut places first drafts t first in
    let Q : List (List ℕ) → Type 0 = λ (ds : List (List ℕ)). GoOut places first ds [] first in
    subst P (sym none) (subst Q (sym no_draft) start)

-- one record more
pub GoOut-more : (places : List (Option Unwritten)) (first version : ℕ) (before after : List (List ℕ)) (old new draft : List ℕ) → GoOut places first before old version → draft_queued version places ≡ Some draft →
    new ≡ old ++ text_with_version version draft → after ≡ before ++ draft ∷ [] → GoOut places first after new (version + 1)
GoOut-more places first version before after old new draft so_far queued appended pushed =
    let P : List ℕ → Type 0 = λ (t : List ℕ). GoOut places first after t (version + 1) in
    let Q : List (List ℕ) → Type 0 = λ (ds : List (List ℕ)). GoOut places first ds (old ++ text_with_version version draft) (version + 1) in
    subst P (sym appended) (subst Q (sym pushed) (more before old version draft so_far queued))

-- the same text
pub GoOut-same : (places : List (Option Unwritten)) (first next : ℕ) (drafts : List (List ℕ)) (old new : List ℕ) → GoOut places first drafts old next → new ≡ old → GoOut places first drafts new next
GoOut-same places first next drafts old new out same = subst (λ (t : List ℕ). GoOut places first drafts t next) (sym same) out

-- one record alone
pub GoOut-one : (places : List (Option Unwritten)) (version : ℕ) (before drafts : List (List ℕ)) (old text new draft : List ℕ) → before ≡ [] → old ≡ [] → draft_queued version places ≡ Some draft →
    text ≡ old ++ text_with_version version draft → drafts ≡ before ++ draft ∷ [] → new ≡ text → GoOut places version drafts new (version + 1)
GoOut-one places version before drafts old text new draft none empty queued appended pushed same =
    GoOut-same places version (version + 1) drafts text new (GoOut-more places version version before drafts old text draft (GoOut-start places version before old none empty) queued appended pushed) same
