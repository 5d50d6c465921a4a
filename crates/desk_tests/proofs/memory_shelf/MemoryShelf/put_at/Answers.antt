use Rattle.std.{proofs.Common.{ℕ, List, ◌∙◌, ap}, specs.Prelude.vec_items}
use Rattle.deck_files.{specs.Files.with_named, proofs.FileSteps.{files_shown, insert-shown}}
use Rattle.desk_tests.{specs.declared.memory_shelf.MemoryFile.MemoryFile, proofs.MemoryFileSteps.file_shown}
use Rattle.desk_tests.proofs.memory_shelf.MemoryShelf.put_at.Goals as goal

pub returns-clause-put : goal.returns-clause-put
returns-clause-put c =
    let file : MemoryFile = record { bytes = c.args.bytes; version = c.args.version } in
    ap (files_shown vec_items file_shown) c.in_ok-insert.ensures.entries
    ∙ insert-shown vec_items file_shown c.self.inside.files.entries c.in_ok-key.key file
    ∙ ap (λ (n : List ℕ). with_named n (file_shown file) (files_shown vec_items file_shown c.self.inside.files.entries)) (c.in_ok-key.ensures.items ∙ c.as_slice.ensures.name)
    ∙ ap (with_named c.args.name.now (file_shown file)) c.self.view_is
