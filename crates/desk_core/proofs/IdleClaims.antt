-- A claim that answers Idle shows the version that is published.
use Rattle.std.{proofs.Common.{◌≡◌, inl, inr, ℕ, true, find, Option, Some, None, refl, sym, eqb-true}, specs.List.list_any, proofs.lemmas.Bool.cond_both}
use Rattle.desk_core.specs.{Desks.{Desk, DeskDeck, Publication, is_leased_at}, Joins.Calls.{Claim, Do, Reply, Idle, Refused, Refusal, OutOfMemory}, Answers.{Answer, unless, against_next}, Claiming.{claim, claim_deck, claim_link, hand_out, hand_out_link, is_behind, is_free, is_published}, Steps.Steps, Runs.IsPublishedAt}

-- where the reply is Idle, its version is the desk's and the publication's
abbrev Tells : Desk → Reply → Type 0
Tells desk reply = (version : ℕ) → reply ≡ Idle version → (version ≡ desk.version) × IsPublishedAt version desk

unless_tells : (desk : Desk) (against : Option Refusal) (accepted : Answer) → Tells desk accepted.reply → Tells desk (unless against desk accepted).reply
unless_tells desk None accepted tells = tells
unless_tells desk (Some refusal) accepted tells = λ version e. cc

claim_deck_tells : (desk : Desk) (found : Option DeskDeck) → Tells desk (claim_deck desk found).reply
claim_deck_tells desk None = λ version e. cc
claim_deck_tells desk (Some deck) = unless_tells desk (against_next desk.leases) (hand_out deck desk) (λ version e. cc)

-- a publication of this version is there
published_at : (desk : Desk) (publication : Option Publication) → desk.publication ≡ publication → is_published desk.version publication ≡ true → IsPublishedAt desk.version desk
published_at desk None shown test = cc
published_at desk (Some publication) shown test = record { publication = publication; shown = shown; version_is = eqb-true publication.version desk.version test }

idle_tells : (desk : Desk) → is_published desk.version desk.publication ≡ true → Tells desk (Idle desk.version)
idle_tells desk test version e =
    let same : version ≡ desk.version = cc in
    (same, rw same (published_at desk desk.publication refl test))

abbrev TellsIn : Desk → Answer → Type 0
TellsIn desk answer = Tells desk answer.reply

claim_link_tells : (desk : Desk) → TellsIn desk (claim_link desk)
claim_link_tells desk =
    cond_both (is_published desk.version desk.publication) _ _ (TellsIn desk) (λ test. idle_tells desk test)
    (λ behind. cond_both (is_leased_at desk.version desk.link) _ _ (TellsIn desk) (λ out version e. cc)
    (λ free. unless_tells desk (against_next desk.leases) (hand_out_link desk) (λ version e. cc)))

claim_tells : (desk : Desk) → TellsIn desk (claim desk)
claim_tells desk = cond_both (list_any is_behind desk.decks) _ _ (TellsIn desk) (λ behind. claim_deck_tells desk (find is_free desk.decks)) (λ built. claim_link_tells desk)

-- the version of Idle is the desk's, and is published
pub idle_is_published : (desk next : Desk) (version : ℕ) → Steps desk (Do Claim) (Idle version) next → (version ≡ desk.version) × IsPublishedAt version desk
idle_is_published desk next version (inl given) = claim_tells desk version (sym given.0)
idle_is_published desk next version (inr starved) = let e : Idle version ≡ Refused OutOfMemory = starved.1 in cc
