use Rattle.std.proofs.Common.{◌∙◌, sym, ap}
use Rattle.definitions.specs.Literals.{offset_of}
use Rattle.use_blocks.proofs.LiteralLaws.{offset-Some, offset-None}
use Rattle.use_blocks.proofs.literals.Literals.offset.Goals as goal

pub returns-in-Some : goal.returns-in-Some
returns-in-Some c =
    offset-Some c.args.word c.in-Some.offset c.self.inside.words.keys (sym c.get_index_of.ensures.index ∙ c.in-Some.is)
    ∙ ap (offset_of c.args.word) c.self.view_is

pub returns-in-None : goal.returns-in-None
returns-in-None c =
    c.len.ensures.len
    ∙ offset-None c.args.word c.self.inside.words.keys (sym c.get_index_of.ensures.index ∙ c.in-None.is)
    ∙ ap (offset_of c.args.word) c.self.view_is
