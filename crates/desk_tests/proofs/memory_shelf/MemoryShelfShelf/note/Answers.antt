use Rattle.std.{proofs.Common.{ℕ, ◌≡◌, List, Option, Some, None, ◌∙◌, sym, ap, is_some}, specs.Prelude.vec_items, specs.Option.option_map}
use Rattle.desk_tests.{specs.MemoryFiles.{Files, KeptFile, noted}, specs.declared.memory_shelf.MemoryFile.MemoryFile, proofs.MemoryFileSteps.file_shown}
use Rattle.deck_files.{specs.Files.{named, with_named}, proofs.FileSteps.{files_shown, lookup-shown, set-shown}}
use Rattle.desk_tests.proofs.memory_shelf.MemoryShelfShelf.note.Goals as goal

pub returns : goal.returns
returns c =
    let file : MemoryFile = record { bytes = c.in-Some.file.now.bytes; version = c.args.version } in
    let found : Some (file_shown c.in-Some.file.now) ≡ named c.args.name.now c.args.self.now =
    ap (option_map file_shown) c.in-Some.ensures.value
    ∙ lookup-shown vec_items file_shown c.as_slice.result.now c.self.inside.files.entries
    ∙ ap (λ (n : List ℕ). named n (files_shown vec_items file_shown c.self.inside.files.entries)) c.as_slice.ensures.name
    ∙ ap (λ (f : Files). named c.args.name.now f) c.self.view_is in
    ap (files_shown vec_items file_shown) (c.get_mut.follows.holds file).0
    ∙ set-shown vec_items file_shown c.as_slice.result.now c.self.inside.files.entries file (sym (ap is_some c.in-Some.ensures.value))
    ∙ ap (λ (n : List ℕ). with_named n (file_shown file) (files_shown vec_items file_shown c.self.inside.files.entries)) c.as_slice.ensures.name
    ∙ ap (with_named c.args.name.now (file_shown file)) c.self.view_is
    ∙ ap (λ (o : Option KeptFile). noted c.args.name.now c.args.version o c.args.self.now) found

pub returns-in_default : goal.returns-in_default
returns-in_default c =
    let none : None ≡ named c.args.name.now c.args.self.now =
    ap (option_map file_shown) c.in_default.ensures.value
    ∙ lookup-shown vec_items file_shown c.as_slice.result.now c.self.inside.files.entries
    ∙ ap (λ (n : List ℕ). named n (files_shown vec_items file_shown c.self.inside.files.entries)) c.as_slice.ensures.name
    ∙ ap (λ (f : Files). named c.args.name.now f) c.self.view_is in
    ap (λ m. files_shown vec_items file_shown m.entries) c.get_mut.follows.holds-at-none
    ∙ c.self.view_is
    ∙ ap (λ (o : Option KeptFile). noted c.args.name.now c.args.version o c.args.self.now) none
