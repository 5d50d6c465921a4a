use Rattle.std.proofs.Common.{sym, subst}
use Rattle.definitions.{specs.Fields.Fields, specs.Laws.Cuts.IsCut, proofs.FieldLaws.{cut_only, cut_lawful}}
use Rattle.definitions.proofs.laws.one_cut_into_fields.Goals as goal

-- src/laws.rt:34:1
pub returns : goal.returns
returns c text fields =
    let P : Fields → Type 0 = λ f. IsCut text f in
    (cut_only text fields, λ e. subst P (sym e) (cut_lawful text))
