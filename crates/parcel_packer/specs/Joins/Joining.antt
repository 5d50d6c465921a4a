-- Equal words one behind the other as one span (ours).
use Rattle.std.specs.Prelude.{ℕ, ◌≡◌, ◌+◌, ◌^◌, List, ◌∷◌, ◌++◌}
use Rattle.parcel_packer.specs.{Joins.Filling.{DoSpansRise, as_stored}, declared.word_spans.WordSpan.WordSpan}

-- a span is that of two, the second of which goes on with the words of the first
pub record AreJoined (first second both : WordSpan) : Type 0 where
  pub offset : both.offset ≡ first.offset
  pub count : both.count ≡ first.count + second.count
  pub value : both.value ≡ first.value
  pub same : second.value ≡ first.value
  pub behind : second.offset ≡ first.offset + first.count

-- a span was put behind others, which leaves the words as they are
pub record IsPushed (old : List WordSpan) (next : WordSpan) (new : List WordSpan) : Type 0 where
  pub words : (left : List WordSpan) → as_stored (new ++ left) ≡ as_stored (old ++ next ∷ left)
  pub rise : (left : List WordSpan) (high : ℕ) → DoSpansRise 0 (old ++ next ∷ left) high → DoSpansRise 0 (new ++ left) high

-- spans being joined: the words of those that are made and of those that are left are the words of all
pub record IsJoining (spans made left : List WordSpan) : Type 0 where
  pub words : as_stored (made ++ left) ≡ as_stored spans
  pub rise : DoSpansRise 0 (made ++ left) (2 ^ 20)
