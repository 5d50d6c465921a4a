use Rattle.std.{proofs.Common.{ℕ, List, Option, Some, ◌∙◌, ap}, specs.Prelude.vec_items, specs.Option.option_map}
use Rattle.desk_tests.{specs.MemoryFiles.{Files, bytes_of}, specs.declared.memory_shelf.MemoryFile.MemoryFile, proofs.MemoryFileSteps.file_shown}
use Rattle.deck_files.{specs.Files.named, proofs.FileSteps.{files_shown, lookup-shown}}
use Rattle.desk_tests.proofs.memory_shelf.MemoryShelf.file.Goals as goal

pub returns-in-Some : goal.returns-in-Some
returns-in-Some c =
    ap Some c.as_slice-in-Some.ensures.value
    ∙ ap (λ (o : Option MemoryFile). bytes_of (option_map file_shown o)) c.in-Some.ensures.value
    ∙ ap bytes_of (lookup-shown vec_items file_shown c.as_slice.result.now c.self.inside.files.entries)
    ∙ ap (λ (n : List ℕ). bytes_of (named n (files_shown vec_items file_shown c.self.inside.files.entries))) c.as_slice.ensures.name
    ∙ ap (λ (f : Files). bytes_of (named c.args.name.now f)) c.self.view_is

pub returns-in-None : goal.returns-in-None
returns-in-None c =
    ap (λ (o : Option MemoryFile). bytes_of (option_map file_shown o)) c.in-None.ensures.value
    ∙ ap bytes_of (lookup-shown vec_items file_shown c.as_slice.result.now c.self.inside.files.entries)
    ∙ ap (λ (n : List ℕ). bytes_of (named n (files_shown vec_items file_shown c.self.inside.files.entries))) c.as_slice.ensures.name
    ∙ ap (λ (f : Files). bytes_of (named c.args.name.now f)) c.self.view_is
