use Rattle.std.proofs.Common.{ℕ, ◌≡◌, ◌+◌, ◌++◌, ◌∷◌, [], List, length, ap, sym, ◌∙◌, arith, append-nil, length-append}
use Rattle.journal.specs.Queues.{all_shown}
use Rattle.journal.proofs.{FileSteps.{kept-last, kept-length, one-gone}, ShownRecords.shown-more}
use Rattle.journal.proofs.queue.show_all.Goals as goal

pub loop-draft-init : goal.loop-draft-init
loop-draft-init g c =
    let drafts : c.kept.inside.drafts.items ≡ c.args.kept.drafts = ap (λ k. k.drafts) c.kept.view_is in
    let from : c.kept.inside.from ≡ c.args.kept.from = ap (λ k. k.from) c.kept.view_is in
    let count = kept-length g.F.RecordsFile.has_done _ _ _ _ c.kept.invariant in
    record {
      version = c.next-version.ensures ∙ (count ∙ ap (λ (n : ℕ). n + length c.kept.inside.drafts.items) from);
      left = ([], sym drafts ∙ sym (append-nil c.kept.inside.drafts.items));
      all = ap (λ (ds : List (List ℕ)). all_shown c.args.places.now c.args.kept.from ds c.args.shown.now.items) drafts;
    }

-- the last of those that are left
pub new-requires : goal.new-requires
new-requires g c =
    let left : List (List ℕ) = c.pop.new.self.items in
    let longer : length c.loop-draft.drafts.items ≡ length left + 1 = ap length c.in-Some.ensures.items ∙ length-append left (c.in-Some.draft ∷ []) in
    let all : c.kept.inside.drafts.items ≡ c.loop-draft.drafts.items ++ c.loop-draft.invariant.left.0 = ap (λ k. k.drafts) c.kept.view_is ∙ c.loop-draft.invariant.left.1 in
    let from : c.kept.inside.from ≡ c.args.kept.from = ap (λ k. k.from) c.kept.view_is in
    let version : c.saturating_sub-version.result ≡ c.kept.inside.from + length left = omega (arith, c.saturating_sub-version.ensures, c.loop-draft.invariant.version, longer, from) in
    kept-last g.F.RecordsFile.has_done _ _ c.kept.inside.from _ c.kept.inside.drafts.items c.loop-draft.drafts.items left c.loop-draft.invariant.left.0 c.in-Some.draft c.kept.invariant all c.in-Some.ensures.items version

pub loop-draft-preserved : goal.loop-draft-preserved
loop-draft-preserved g c =
    let left : List (List ℕ) = c.pop.new.self.items in
    let longer : length c.loop-draft.drafts.items ≡ length left + 1 = ap length c.in-Some.ensures.items ∙ length-append left (c.in-Some.draft ∷ []) in
    let version : c.saturating_sub-version.result ≡ c.args.kept.from + length left = omega (arith, c.saturating_sub-version.ensures, c.loop-draft.invariant.version, longer) in
    record {
      version = version;
      left = (c.in-Some.draft ∷ c.loop-draft.invariant.left.0, one-gone c.args.kept.drafts c.loop-draft.drafts.items left c.loop-draft.invariant.left.0 c.in-Some.draft c.loop-draft.invariant.left.1 c.in-Some.ensures.items);
      all = shown-more c.args.places.now c.args.kept.from _ _ left c.in-Some.draft _ _ c.loop-draft.shown.items _ version c.in-Some.ensures.items c.place_of-place.ensures c.new.ensures c.show_at.ensures ∙ c.loop-draft.invariant.all;
    }
