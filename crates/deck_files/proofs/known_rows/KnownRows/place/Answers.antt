use Rattle.std.{proofs.Common.{ℕ, List, Option, ◌∙◌, ap}, specs.Prelude.vec_items, specs.Option.option_map}
use Rattle.deck_files.{specs.Files.named, specs.declared.known_rows.Known.Known, specs.KnownFiles.KnownRows, proofs.FileSteps.{files_shown, lookup-shown}}
use Rattle.deck_files.proofs.known_rows.KnownRows.place.Goals as goal

pub returns-in-Some : goal.returns-in-Some
returns-in-Some c =
    ap (option_map (λ (n : Option Known). n)) c.in-Some.ensures.value
    ∙ lookup-shown vec_items (λ (n : Option Known). n) c.as_slice.result.now c.self.inside.files.entries
    ∙ ap (λ (n : List ℕ). named n (files_shown vec_items (λ (n : Option Known). n) c.self.inside.files.entries)) c.as_slice.ensures.name
    ∙ ap (λ (k : KnownRows). named c.args.name.now k.files) c.self.view_is

pub returns-in-None : goal.returns-in-None
returns-in-None c =
    ap (option_map (λ (n : Option Known). n)) c.in-None.ensures.value
    ∙ lookup-shown vec_items (λ (n : Option Known). n) c.as_slice.result.now c.self.inside.files.entries
    ∙ ap (λ (n : List ℕ). named n (files_shown vec_items (λ (n : Option Known). n) c.self.inside.files.entries)) c.as_slice.ensures.name
    ∙ ap (λ (k : KnownRows). named c.args.name.now k.files) c.self.view_is
