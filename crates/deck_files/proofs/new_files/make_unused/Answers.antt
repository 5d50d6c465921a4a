use Rattle.std.proofs.Common.{[], ◌∷◌, inl, inr, refl}
use Rattle.deck_files.{specs.Steps.{Make, Refused}, specs.FolderSaves.{IsNew, refused_tries}, proofs.FolderSteps.{ChangeAmong-tries, takes-join}}
use Rattle.deck_files.proofs.new_files.make_unused.Goals as goal

-- no memory was left for a path
pub returns-in_default-clause-fault : goal.returns-in_default-clause-fault
returns-in_default-clause-fault g c = (
  inr refl,
  (refused_tries c.args.place.now c.loop-tries.tries, ChangeAmong-tries (IsNew c.args.place.now) c.args.place.now c.loop-tries.tries, c.loop-tries.invariant),
)

-- the folder refused to make a file, though nothing stands there
pub returns-in-Err-2-clause-fault : goal.returns-in-Err-2-clause-fault
returns-in-Err-2-clause-fault g c =
    let refused = refused_tries c.args.place.now c.loop-tries.tries in (
      c.save_fault.ensures.one,
      (
        (Make c.as_str.result.now, Refused) ∷ refused,
        (tt, ChangeAmong-tries (IsNew c.args.place.now) c.args.place.now c.loop-tries.tries),
        takes-join g.F.Folder.has_done _ _ _ refused ((Make c.as_str.result.now, Refused) ∷ []) c.loop-tries.invariant c.in-Err-2.ensures,
      ),
    )

-- every name has a file
pub returns-clause-fault : goal.returns-clause-fault
returns-clause-fault g c = (
  inl refl,
  (refused_tries c.args.place.now c.loop-tries.tries, ChangeAmong-tries (IsNew c.args.place.now) c.args.place.now c.loop-tries.tries, c.loop-tries.invariant),
)
