use Rattle.std.proofs.Common.{◌≡◌, ◌≤◌, ℕ, true, false, List, [], ◌∷◌, ◌++◌, length, ap, sym, ◌∙◌, subst, length-append, arith}
use Rattle.indexmap.specs.IndexMap.{insert_entry}
use Rattle.definitions.specs.{Characters.same_text, Blocks.{is_named, is_accepted}, Lengths.BlockLength}
use Rattle.use_blocks.{specs.Joins.BlockLengths.{block_names, has_name, lengths_shown}, proofs.ReachLaws.{is_named_blocks, accepted-few, opened-new, opened-old, shown-length, shown-new}}
use Rattle.use_blocks.proofs.lengths.Lengths.open.Goals as goal

pub invariant_of-self-2 : goal.invariant_of-self-2
invariant_of-self-2 c =
    let entries = c.self.inside.words.entries in
    let blocks = lengths_shown entries in
    let new : BlockLength = record { name = c.args.name.now; words = 0 } in
    let unshown : has_name c.args.name.now blocks ≡ false = sym c.has_block.ensures ∙ c.if-has_block.false in
    let unused : is_named c.args.name.now (block_names blocks) ≡ false = sym (is_named_blocks c.args.name.now blocks) ∙ unshown in
    let accepted : is_accepted c.args.name.now (block_names blocks) ≡ true = subst (λ (bs : List BlockLength). is_accepted c.args.name.now (block_names bs) ≡ true) (sym c.self.view_is) c.requires in
    let few = accepted-few c.args.name.now blocks accepted unused in
    let more : length (blocks ++ new ∷ []) ≤ 64 = rw (length-append blocks (new ∷ [])) (omega arith) in
    let shown : lengths_shown c.insert.new.self.entries ≡ blocks ++ new ∷ [] =
    ap lengths_shown (c.in_ok-insert.ensures.entries ∙ ap (λ (n : List ℕ). insert_entry same_text entries n 0) c.new.ensures) ∙ shown-new c.args.name.now entries unshown in
    subst (λ (n : ℕ). n ≤ 64) (shown-length c.insert.new.self.entries) (subst (λ (bs : List BlockLength). length bs ≤ 64) (sym shown) more)

pub returns-clause-opened : goal.returns-clause-opened
returns-clause-opened c =
    let entries = c.self.inside.words.entries in
    let blocks = lengths_shown entries in
    let unshown : has_name c.args.name.now blocks ≡ false = sym c.has_block.ensures ∙ c.if-has_block.false in
    ap lengths_shown (c.in_ok-insert.ensures.entries ∙ ap (λ (n : List ℕ). insert_entry same_text entries n 0) c.new.ensures)
    ∙ shown-new c.args.name.now entries unshown
    ∙ opened-new c.args.name.now blocks c.args.self.now c.self.view_is unshown

pub returns-then-has_block-clause-opened : goal.returns-then-has_block-clause-opened
returns-then-has_block-clause-opened c =
    let blocks = lengths_shown c.self.inside.words.entries in
    let used : has_name c.args.name.now blocks ≡ true = sym c.has_block.ensures ∙ c.if-has_block.true in
    opened-old c.args.name.now blocks c.args.self.now c.self.view_is used
