use Rattle.std.proofs.Common.{[], ◌∷◌, inl, inr, refl}
use Rattle.deck_files.{specs.Steps.{Link, Refused}, specs.FolderSaves.{IsNew, refused_links}, proofs.FolderSteps.{ChangeAmong-links, takes-join}}
use Rattle.deck_files.proofs.second_names.link_unused.Goals as goal

-- no memory was left for a path
pub returns-in_default-clause-fault : goal.returns-in_default-clause-fault
returns-in_default-clause-fault g c =
    let place = c.args.place.now in
    let deck = c.args.deck.now in
    (inr refl, (refused_links place deck c.loop-tries.tries, ChangeAmong-links (IsNew place) place deck c.loop-tries.tries, c.loop-tries.invariant))

-- the folder refused another name, though nothing has it
pub returns-in-Err-2-clause-fault : goal.returns-in-Err-2-clause-fault
returns-in-Err-2-clause-fault g c =
    let place = c.args.place.now in
    let deck = c.args.deck.now in
    let refused = refused_links place deck c.loop-tries.tries in (
      c.save_fault.ensures.one,
      (
        (Link deck c.as_str.result.now, Refused) ∷ refused,
        (tt, ChangeAmong-links (IsNew place) place deck c.loop-tries.tries),
        takes-join g.F.Folder.has_done _ _ _ refused ((Link deck c.as_str.result.now, Refused) ∷ []) c.loop-tries.invariant c.in-Err-2.ensures,
      ),
    )

-- every name has a file
pub returns-clause-fault : goal.returns-clause-fault
returns-clause-fault g c =
    let place = c.args.place.now in
    let deck = c.args.deck.now in
    (inl refl, (refused_links place deck c.loop-tries.tries, ChangeAmong-links (IsNew place) place deck c.loop-tries.tries, c.loop-tries.invariant))
