use Rattle.std.proofs.Common.{◌≡◌, ◌+◌, map, take}
use Rattle.definitions.specs.{Kinds.unit_bits, Words.width_of}
use Rattle.deck_listing.specs.Joins.Putting.{ArePut}
use Rattle.deck_listing.proofs.fields.put_fields.Given as goal

abbrev pub invariant-loop-field : goal.invariant-loop-field
invariant-loop-field g l = record {
  kind : l.words.kind ≡ l.initial.words.kind;
  earlier : l.words.earlier ≡ l.initial.words.earlier;
  end : l.end ≡ l.from + width_of (map (g.F.ListedField.field l.kind) (take l.field-index l.fields));
  put : ArePut (unit_bits l.initial.words.kind) l.is_instruction (g.L.Linking.linking l.linking) l.initial.words.run l.from (map (g.F.ListedField.field l.kind) (take l.field-index l.fields)) l.words.run;
}
