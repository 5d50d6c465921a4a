use Rattle.std.{proofs.Common.{Option, ◌∙◌, ap}, specs.Prelude.vec_items}
use Rattle.deck_files.{specs.Files.with_named, specs.declared.known_rows.Known.Known, specs.KnownFiles.KnownRows, proofs.FileSteps.{files_shown, insert-shown}}
use Rattle.deck_files.proofs.known_rows.KnownRows.insert.Goals as goal

pub returns : goal.returns
returns c =
    ap (files_shown vec_items (λ (n : Option Known). n)) c.in-Ok.ensures.entries
    ∙ insert-shown vec_items (λ (n : Option Known). n) c.self.inside.files.entries c.args.key c.args.known
    ∙ ap (λ (k : KnownRows). with_named c.args.key.items c.args.known k.files) c.self.view_is
