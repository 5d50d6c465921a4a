use Rattle.std.{proofs.Common.{ℕ, List, Option, Some, ◌∙◌, sym, ap, is_some, true≢false}, specs.Prelude.vec_items, specs.Option.option_map}
use Rattle.deck_files.{specs.Files.{named, with_named}, specs.declared.known_rows.Known.Known, specs.KnownFiles.KnownRows, proofs.FileSteps.{files_shown, lookup-shown, set-shown}}
use Rattle.deck_files.proofs.known_rows.KnownRows.put.Goals as goal

pub returns : goal.returns
returns c =
    let known : Option Known = Some c.args.known in
    ap (files_shown vec_items (λ (n : Option Known). n)) (c.get_mut.follows.holds known).0
    ∙ set-shown vec_items (λ (n : Option Known). n) c.as_slice.result.now c.self.inside.files.entries known (sym (ap is_some c.in-Some.ensures.value))
    ∙ ap (λ (n : List ℕ). with_named n known (files_shown vec_items (λ (n : Option Known). n) c.self.inside.files.entries)) c.as_slice.ensures.name
    ∙ ap (λ (k : KnownRows). with_named c.args.name.now known k.files) c.self.view_is

-- the name has a place
pub returns-in_default : goal.returns-in_default
returns-in_default c =
    absurd (true≢false (sym c.requires ∙ sym (ap is_some
    (ap (option_map (λ (n : Option Known). n)) c.in_default.ensures.value
    ∙ lookup-shown vec_items (λ (n : Option Known). n) c.as_slice.result.now c.self.inside.files.entries
    ∙ ap (λ (n : List ℕ). named n (files_shown vec_items (λ (n : Option Known). n) c.self.inside.files.entries)) c.as_slice.ensures.name
    ∙ ap (λ (k : KnownRows). named c.args.name.now k.files) c.self.view_is))))
