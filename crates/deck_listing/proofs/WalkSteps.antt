-- The lines of an object, walked one after the other.
use Rattle.std.proofs.{Common.{◌≡◌, List, [], ◌∷◌, ◌++◌, Option, Some, None, reverse, refl, sym, ap, subst, ◌∙◌, append_assoc, append-nil, length}, lemmas.List.{reverse-append, reverse-reverse}}
use Rattle.definitions.specs.{Cards.Card, Lengths.BlockRow, Objects.Object, Words.{Coded, Linking}, declared.deck_kind.DeckKind.DeckKind, Laws.Reaching.DoReach, Laws.Rising.AreLaidOut}
use Rattle.deck_objects.specs.declared.lines.FieldLists.{FieldLists}
use Rattle.parcel_packer.specs.Joins.Packing.{Packed}
use Rattle.deck_listing.{specs.Joins.Walking.{AreEmpty, DoesFollowAll, HaveRuns, IsNextOfAll, AreWalked}, proofs.BlockSteps.empty-runs}
use Rattle.deck_objects.specs.{Joins.CodedLines.{IsCoded, AreCoded}, Joins.PartsOf.ArePartsOf, declared.lines.Line.Line, declared.object.ObjectParts.ObjectParts}
use Rattle.deck_objects.specs.declared.lines.CodedLine as lines

-- the statement of the first line, and the others
record IsSplit (kind : DeckKind) (rows : List BlockRow) (lists : FieldLists) (stored : lines.CodedLine) (rest : List Line) (all : List Coded) : Type 0 where
  coded : Coded
  others : List Coded
  parts : all ≡ coded ∷ others
  is_coded : IsCoded kind rows lists stored coded
  ahead : AreCoded kind rows lists rest others

split_coded : (kind : DeckKind) (rows : List BlockRow) (lists : FieldLists) (line : Line) (stored : lines.CodedLine) (rest : List Line) (all : List Coded) →
    line.coded ≡ Some stored → AreCoded kind rows lists (line ∷ rest) all → IsSplit kind rows lists stored rest all
split_coded kind rows lists line stored rest all e h = split all (by_stored line.coded e h)
  where
    Rest : Option lines.CodedLine → List Coded → Type 0
    Rest o all = elim o [
      | None ↦ AreCoded kind rows lists rest all
      | Some stored ↦ elim all [ [] ↦ ⊥ | coded ∷ others ↦ IsCoded kind rows lists stored coded × AreCoded kind rows lists rest others ]
    ]

    by_stored : (o : Option lines.CodedLine) → o ≡ Some stored → Rest o all → Rest (Some stored) all
    by_stored o e h = subst (λ p. Rest p all) e h

    split : (all : List Coded) → Rest (Some stored) all → IsSplit kind rows lists stored rest all
    split [] h = absurd h
    split (coded ∷ others) h = record { coded = coded; others = others; parts = refl; is_coded = h.0; ahead = h.1 }

past_coded : (kind : DeckKind) (rows : List BlockRow) (lists : FieldLists) (line : Line) (rest : List Line) (all : List Coded) →
    line.coded ≡ None → AreCoded kind rows lists (line ∷ rest) all → AreCoded kind rows lists rest all
past_coded kind rows lists line rest all e h = by_stored line.coded e h
  where
    Rest : Option lines.CodedLine → Type 0
    Rest o = elim o [
      | None ↦ AreCoded kind rows lists rest all
      | Some stored ↦ elim all [ [] ↦ ⊥ | coded ∷ others ↦ IsCoded kind rows lists stored coded × AreCoded kind rows lists rest others ]
    ]

    by_stored : (o : Option lines.CodedLine) → o ≡ None → Rest o → Rest None
    by_stored o e h = subst Rest e h

laid_suffix : (kind : DeckKind) (later earlier : List Coded) → AreLaidOut kind (later ++ earlier) → AreLaidOut kind earlier
laid_suffix kind [] earlier h = h
laid_suffix kind (coded ∷ later) earlier h = laid_suffix kind later earlier h.1

reach_suffix : (kind : DeckKind) (later earlier : List Coded) → DoReach kind (later ++ earlier) → DoReach kind earlier
reach_suffix kind [] earlier h = h
reach_suffix kind (coded ∷ later) earlier h = reach_suffix kind later earlier h.1

-- one statement goes from those that are left to those that are packed
one_over : (left earlier others : List Coded) (coded : Coded) → left ≡ coded ∷ others → reverse left ++ earlier ≡ reverse others ++ coded ∷ earlier
one_over left earlier others coded e =
    ap (λ l. reverse l ++ earlier) e ∙ ap (λ l. l ++ earlier) (reverse-append (coded ∷ []) others) ∙ append_assoc (reverse others) (coded ∷ []) earlier

follows-split : (kind : DeckKind) (rows : List BlockRow) (lists : FieldLists) (linking : Linking) (all : List Coded) (stored : lines.CodedLine) (rest ahead : List Line) (packed : List Packed) →
    (walked : AreWalked kind rows lists linking all ahead packed) (parts : IsSplit kind rows lists stored rest walked.left) →
    DoesFollowAll kind rows lists linking stored packed parts.coded walked.earlier
follows-split kind rows lists linking all stored rest ahead packed walked parts =
    let over = one_over walked.left walked.earlier parts.others parts.coded parts.parts in
    record {
      is_coded = parts.is_coded;
      laid = (laid_suffix kind (reverse parts.others) (parts.coded ∷ walked.earlier) (subst (AreLaidOut kind) over walked.laid)).0;
      reach = (reach_suffix kind (reverse parts.others) (parts.coded ∷ walked.earlier) (subst (DoReach kind) over walked.reach)).0;
      runs = walked.runs;
    }

-- before the first line nothing lies in any block
pub walked-first : (linking : Linking) (cards : List Card) (parts : ObjectParts) (object : Object) (packed : List Packed) → ArePartsOf cards parts object → AreEmpty parts.kind (length parts.bases) packed →
    AreWalked parts.kind parts.bases parts.fields linking object.coded parts.lines.items packed
walked-first linking cards parts object packed are_parts empty =
    let all : reverse (reverse object.coded) ++ [] ≡ object.coded = append-nil (reverse (reverse object.coded)) ∙ reverse-reverse object.coded in
    record {
      left = reverse object.coded;
      earlier = [];
      split = all;
      coded = are_parts.coded;
      laid = subst (AreLaidOut parts.kind) (sym all) (subst (λ k. AreLaidOut k object.coded) (sym are_parts.kind) are_parts.laid);
      reach = subst (DoReach parts.kind) (sym all) (subst (λ k. DoReach k object.coded) (sym are_parts.kind) are_parts.reach);
      runs = empty-runs parts.kind linking parts.bases packed empty;
    }

-- the next line that stores something is a statement that follows
pub walked-next : (kind : DeckKind) (rows : List BlockRow) (lists : FieldLists) (linking : Linking) (all : List Coded) (line : Line) (stored : lines.CodedLine) (rest ahead : List Line) (packed : List Packed) →
    AreWalked kind rows lists linking all ahead packed → ahead ≡ line ∷ rest → line.coded ≡ Some stored → IsNextOfAll kind rows lists linking stored packed
walked-next kind rows lists linking all line stored rest ahead packed walked a e =
    let parts = split_coded kind rows lists line stored rest walked.left e (subst (λ ls. AreCoded kind rows lists ls walked.left) a walked.coded) in
    record { coded = parts.coded; earlier = walked.earlier; follows = follows-split kind rows lists linking all stored rest ahead packed walked parts }

-- once it is put, it is one of those before the rest
pub walked-on : (kind : DeckKind) (rows : List BlockRow) (lists : FieldLists) (linking : Linking) (all : List Coded) (line : Line) (stored : lines.CodedLine) (rest ahead : List Line) (packed new : List Packed) →
    AreWalked kind rows lists linking all ahead packed → ahead ≡ line ∷ rest → line.coded ≡ Some stored →
    ((coded : Coded) (earlier : List Coded) → DoesFollowAll kind rows lists linking stored packed coded earlier → HaveRuns kind linking rows (coded ∷ earlier) new) →
    AreWalked kind rows lists linking all rest new
walked-on kind rows lists linking all line stored rest ahead packed new walked a e put =
    let parts = split_coded kind rows lists line stored rest walked.left e (subst (λ ls. AreCoded kind rows lists ls walked.left) a walked.coded) in
    let over = one_over walked.left walked.earlier parts.others parts.coded parts.parts in
    record {
      left = parts.others;
      earlier = parts.coded ∷ walked.earlier;
      split = sym over ∙ walked.split;
      coded = parts.ahead;
      laid = subst (AreLaidOut kind) over walked.laid;
      reach = subst (DoReach kind) over walked.reach;
      runs = put parts.coded walked.earlier (follows-split kind rows lists linking all stored rest ahead packed walked parts);
    }

-- a line that is only listed stores nothing
pub walked-past : (kind : DeckKind) (rows : List BlockRow) (lists : FieldLists) (linking : Linking) (all : List Coded) (line : Line) (rest ahead : List Line) (packed : List Packed) →
    AreWalked kind rows lists linking all ahead packed → ahead ≡ line ∷ rest → line.coded ≡ None → AreWalked kind rows lists linking all rest packed
walked-past kind rows lists linking all line rest ahead packed walked a e =
    record {
      left = walked.left;
      earlier = walked.earlier;
      split = walked.split;
      coded = past_coded kind rows lists line rest walked.left e (subst (λ ls. AreCoded kind rows lists ls walked.left) a walked.coded);
      laid = walked.laid;
      reach = walked.reach;
      runs = walked.runs;
    }
