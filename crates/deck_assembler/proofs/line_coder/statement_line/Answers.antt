use Rattle.std.proofs.Common.{◌≡◌, ◌∙◌, ap, sym, refl, subst}
use Rattle.definitions.{specs.Letters.{in_order, letters_of}, specs.Objects.coded_of, specs.Settled.defined, specs.Settling.{View, settle, settled_all}, specs.StatementItems.items_of, proofs.FillLaws.settle-fill}
use Rattle.statement_coder.specs.Joins.{Items.deck_with, CodedItems.{AreTold, stores_zeros}, Sizings.IsSizing}
use Rattle.deck_objects.specs.Joins.CodedLines.{IsCoded}
use Rattle.deck_assembler.{specs.Joins.KeptFields.IsTold, specs.Joins.Walks.{context_in, whole_of, all_settled}, proofs.ShortLaws.settle-short}
use Rattle.deck_assembler.proofs.line_coder.statement_line.Goals as goal

pub returns-clause-line : goal.returns-clause-line
returns-clause-line c =
    λ known others earlier given stood ahead is same taken sized named.
    let whole = whole_of c.args.view.now known others in
    let kind = whole.deck.kind in
    let before = settled_all kind earlier in
    let settled = settle kind before given in
    let context = context_in whole in
    let sizing = c.args.sized.now.sizing in
    let view : View = λ name. defined name before in
    let told = subst (λ k. AreTold k settled.read.operand sizing c.in_ok-coded.coded.items c.args.lists.now.items.items c.code.new.list.items
    (items_of (deck_with k whole.rows (all_settled whole) whole.deck.literals) settled settled.read.operation)) same
    (c.in_ok-coded.ensures.items view settled (all_settled whole) whole.deck.literals is.sized.symbols refl (subst (λ k. IsSizing k view settled sizing) (sym same) sized.sizing) taken) in
    let fields = items_of context settled settled.read.operation in
    let is_told : IsTold kind view settled sizing c.in_ok-coded.coded.items c.args.lists.now.items.items c.code.new.list.items fields = record {
      is_sizing = sized.sizing;
      are_told = told;
      zeros = c.in_ok-coded.ensures.zeros ∙ ap stores_zeros (sym taken.operation);
      filled = settle-fill kind before given context refl;
      short = settle-short kind before given context refl;
    } in
    let there = subst (λ k. IsTold k view settled sizing c.in_ok-coded.coded.items c.args.lists.now.items.items c.code.new.list.items fields) (sym same) is_told in (
      record {
        before = sym sized.before;
        cards = sized.cards;
        some = sized.some;
        within = sized.within;
        letters = subst (λ k. c.in_ok-coded.coded.letters ≡ in_order (letters_of (deck_with k whole.rows (all_settled whole) whole.deck.literals) settled)) same
            (c.in_ok-coded.ensures.letters view settled (all_settled whole) whole.deck.literals is.sized.symbols refl (subst (λ k. IsSizing k view settled sizing) (sym same) sized.sizing) taken);
        stored = subst (λ k. IsCoded k whole.rows c.coded_line.new.lists c.in_ok-line.line (coded_of context settled)) same (c.in_ok-line.ensures.line whole.rows view settled c.args.lists.now.items.items fields (sym taken.operation) named there);
      },
      (c.in_ok-line.ensures.words, c.in_ok-line.ensures.before view settled c.args.lists.now.items.items fields there),
    )
