use Rattle.parcel_packer.proofs.NothingLaws.{nothing_lies, earlier_lies, latest_lies}
use Rattle.parcel_packer.proofs.words.Words.is_empty.Goals as goal

pub returns-then-not-lies_in-clause-none : goal.returns-then-not-lies_in-clause-none
returns-then-not-lies_in-clause-none c =
    let inside = c.self.inside in
    λ h.
    nothing_lies c.args.self.now inside.kind inside.run.items c.as_slice.result.now inside.next inside.earlier.items c.as_slice-then-not-lies_in.result.now c.lies_in_any.result
    c.self.view_is c.as_slice.ensures.value c.as_slice-then-not-lies_in.ensures.value c.if-not-lies_in.ensures c.lies_in_any.ensures h

pub returns-then-not-lies_in-clause-some : goal.returns-then-not-lies_in-clause-some
returns-then-not-lies_in-clause-some c =
    let inside = c.self.inside in
    λ h.
    earlier_lies c.args.self.now inside.kind inside.run.items c.as_slice.result.now inside.next inside.earlier.items c.as_slice-then-not-lies_in.result.now c.lies_in_any.result
    c.self.view_is c.as_slice.ensures.value c.as_slice-then-not-lies_in.ensures.value c.if-not-lies_in.ensures c.lies_in_any.ensures h

pub returns-else-not-lies_in-clause-some : goal.returns-else-not-lies_in-clause-some
returns-else-not-lies_in-clause-some c =
    let inside = c.self.inside in
    λ h.
    latest_lies c.args.self.now inside.kind inside.run.items c.as_slice.result.now inside.next inside.earlier.items
    c.self.view_is c.as_slice.ensures.value c.if-not-lies_in.ensures
