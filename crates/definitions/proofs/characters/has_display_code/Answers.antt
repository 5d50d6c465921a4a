use Rattle.std.{proofs.Common.{sym, ap, ◌∙◌, Bool, ◌&&◌}, specs.Prelude.nat_le, proofs.lemmas.Bool.le-leb}
use Rattle.definitions.proofs.CharacterLaws.{is_some-display_code_of}
use Rattle.definitions.proofs.characters.has_display_code.Goals as goal

pub returns-then-byte-ge-FIRST : goal.returns-then-byte-ge-FIRST
returns-then-byte-ge-FIRST c =
    sym (is_some-display_code_of c.args.byte c.ranges.byte.fits
    ∙ ap (λ (t : Bool). t && nat_le c.args.byte 95) (le-leb 32 c.args.byte c.if-byte-ge-FIRST.true))
