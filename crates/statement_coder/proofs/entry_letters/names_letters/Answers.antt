use Rattle.std.{proofs.Common.{◌∙◌, ◌++◌, ap}, specs.Prelude.{flat_map, option_copied}}
use Rattle.definitions.specs.Letters.{in_order, name_fault}
use Rattle.statement_coder.proofs.NameLaws.{one_gathered, all_gathered}
use Rattle.statement_coder.proofs.entry_letters.names_letters.Goals as goal

pub returns-in-None : goal.returns-in-None
returns-in-None g c =
    λ settled seen.
    all_gathered c.names.letters (flat_map (name_fault settled) c.names.rest) (flat_map (name_fault settled) c.args.names)
    (ap (flat_map (name_fault settled)) c.in-None.ensures.none.0) (c.names.invariant settled seen)

pub names-preserved : goal.names-preserved
names-preserved g c =
    λ settled seen.
    one_gathered c.names.letters c.with_letter-letters.result (name_fault settled (option_copied c.in-Some.name))
    (flat_map (name_fault settled) c.names.rest) (flat_map (name_fault settled) c.next.new.self) (flat_map (name_fault settled) c.args.names)
    (ap (flat_map (name_fault settled)) c.in-Some.ensures.some)
    (λ so_far is. c.with_letter-letters.ensures so_far is ∙ ap (λ letters. in_order (so_far ++ letters)) (c.name_letter.ensures settled seen))
    (c.names.invariant settled seen)
