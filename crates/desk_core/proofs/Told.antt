-- What the accepted changes show of a desk: its version, its cards, and its publication. Each step keeps it.
use Rattle.std.proofs.{Common.{◌≡◌, ℕ, ◌+◌, ◌-◌, ◌≤◌, List, [], ◌∷◌, ◌++◌, take, length, Some, sym, refl, ap, ◌∙◌, arith, length-append}, lemmas.List.take-append-le, lemmas.List.Sums.fold-append, Math.Seq.take-length}
use Rattle.desk_core.{specs.Joins.Language.Deck, specs.Changes.{Change, changed, decks_after}, specs.Desks.{Desk, Publication, new_desk_at, decks_of}, specs.Joins.Calls.{Call, Reply}, specs.Runs.IsUnchanged, proofs.Outcomes.{Changes, Publishes}}

-- the version counts the changes, the cards are what they leave, and the publication is of what the first of them left
pub record IsTold (begun : ℕ) (changes : List Change) (desk : Desk) : Type 0 where
  pub version : desk.version ≡ begun + length changes
  pub decks : decks_of desk ≡ decks_after changes
  pub published : (publication : Publication) → desk.publication ≡ Some publication →
      (publication.version ≤ begun + length changes) × (begun ≤ publication.version) × (publication.decks ≡ decks_after (take (publication.version - begun) changes))

-- a new desk
pub told_first : (begun : ℕ) → IsTold begun [] (new_desk_at begun)
told_first begun = record { version = omega arith; decks = refl; published = λ publication shown. cc }

-- what stays is stated as before
pub told_still : (begun : ℕ) (changes : List Change) (desk next : Desk) → IsTold begun changes desk → IsUnchanged desk next → IsTold begun changes next
told_still begun changes desk next told still = record {
  version = still.version ∙ told.version;
  decks = still.decks ∙ told.decks;
  published = λ publication shown. told.published publication (sym still.publication ∙ shown);
}

-- the first changes are the same after one more
decks_before : (changes : List Change) (change : Change) (version : ℕ) → version ≤ length changes → decks_after (take version (changes ++ change ∷ [])) ≡ decks_after (take version changes)
decks_before changes change version reached = ap decks_after (take-append-le version changes (change ∷ []) reached)

-- one change more
pub told_change : (begun : ℕ) (changes : List Change) (desk next : Desk) (call : Call) (reply : Reply) → IsTold begun changes desk → (by : Changes desk call reply next) → IsTold begun (changes ++ by.change ∷ []) next
told_change begun changes desk next call reply told by =
    let long = length-append changes (by.change ∷ []) in
    let counted = told.version in
    let more = by.version in
    record {
      version = omega arith;
      decks = by.decks ∙ (ap (λ (ds : List Deck). changed ds by.change) told.decks ∙ sym (fold-append changed [] changes (by.change ∷ [])));
      published = λ publication shown.
          let before = told.published publication (sym by.publication ∙ shown) in
          let reached = before.0 in
          let not_before = before.1 in
          (omega arith, not_before, before.2 ∙ sym (decks_before changes by.change (publication.version - begun) (omega arith)));
    }

-- a publication of the present decks
pub told_publication : (begun : ℕ) (changes : List Change) (desk next : Desk) (call : Call) (reply : Reply) → IsTold begun changes desk → Publishes desk call reply next → IsTold begun changes next
told_publication begun changes desk next call reply told by = record {
  version = by.version ∙ told.version;
  decks = by.decks ∙ told.decks;
  published = λ publication shown.
      let same : publication ≡ by.publication = cc in
      let counted : publication.version ≡ begun + length changes = ap (λ (p : Publication). p.version) same ∙ (by.version_of ∙ told.version) in
      let all : publication.version - begun ≡ length changes = omega arith in (
        omega arith,
        omega arith,
        ap (λ (p : Publication). p.decks) same ∙ (by.decks_are ∙ (told.decks ∙ sym (ap decks_after (ap (λ n. take n changes) all ∙ take-length changes)))),
      );
}
