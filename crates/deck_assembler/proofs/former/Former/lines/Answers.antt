use Rattle.std.proofs.Common.{◌∙◌, List, inl, inr, ap, refl, sym, subst}
use Rattle.deck_objects.specs.declared.lines.Line.{Line}
use Rattle.deck_assembler.specs.Joins.{Heads.AreHeadLines, TailLines.lines_behind}
use Rattle.deck_assembler.proofs.former.Former.lines.Goals as goal

pub returns : goal.returns
returns c =
    let tail = c.tail_lines.ensures in
    let front = c.front_lines-front.ensures in
    let all = c.as_slice-all.ensures.value in
    record {
      fields = refl;
      symbols = c.bindings.ensures.symbols;
      literals = c.bindings.ensures.literals;
      bases = c.bindings.ensures.rows;
      alike = λ k. (front.alike k).0 ∙ all;
      before = λ k. (front.alike k).1;
      other = elim front.other [
        | inl k ↦ inl k
        | inr both ↦ elim c.lines_alike-alike.ensures.other [
          | inr k ↦ inl k
          | inl none ↦ inr (record {
            head = subst (λ (l : List Line). AreHeadLines c.args.self.now.before 0 l c.front_lines-front.result.lines.now) all both.0;
            before = both.1;
            none = elim tail.some [
              | inl zero ↦ tail.none zero
              | inr some ↦ some ∙ ap (lines_behind _) none
            ];
          })
        ]
      ];
      none = tail.none;
      tail = λ k. elim tail.some [
        | inl zero ↦ inl zero
        | inr some ↦ inr (some ∙ ap (lines_behind _) (c.lines_alike-alike.ensures.alike k ∙ sym (front.alike k).0))
      ];
      place = tail.at;
    }
