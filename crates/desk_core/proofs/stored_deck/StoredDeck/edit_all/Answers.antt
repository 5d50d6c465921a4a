use Rattle.std.proofs.Common.{rules, subst, sym, ap, ap₂, ◌∙◌, ◌≡◌, ◌≤◌, Bool, false, cond, ◌||◌, is_some, ◌++◌, List, length, None}
use Rattle.cards.specs.declared.carrying.MadeEdit.{MadeEdit}
use Rattle.desk_core.{specs.Joins.Language.Card, specs.Desks.DeskDeck, specs.Joins.Edits.{Edit, first_fault, edited_by}, specs.declared.past.Back.Back, specs.Past.{Past, KeptEdit, with_edits, trimmed, past_after}, specs.Led.IsPastOf, specs.Changing.edited_deck, specs.Joins.Stored.kept_both, proofs.CardCounts.edited_by-few, proofs.PastSteps.{kept-batch, batch-length}, proofs.PastLaws.past-more}
use Rattle.desk_core.proofs.stored_deck.StoredDeck.edit_all.Goals as goal

-- as many edits as there are that take them back
pub append-requires : goal.append-requires
append-requires c =
    ap (λ (backs : List Back). length backs) c.in_ok-cards.ensures.backs
    ∙ (batch-length c.args.version c.args.by.now c.args.edits.now c.self.inside.cards ∙ sym (ap (λ (made : List MadeEdit). length made) c.in_ok-made.ensures))

-- the edited cards are no more than a deck may have
pub invariant_of-self-2 : goal.invariant_of-self-2
invariant_of-self-2 c =
    let same : c.args.self.now.cards ≡ c.self.inside.cards = sym (ap (λ (deck : DeskDeck). deck.cards) c.self.view_is) in
    let applies = subst (λ (cards : List Card). first_fault c.args.edits.now cards ≡ None) same c.requires in
    let cards = c.in_ok-cards.ensures.cards in
    let inside = c.self.inside in
    let version = c.args.version in
    let by = c.args.by.now in
    let edits = c.args.edits.now in
    let before = inside.cards in
    let kept = ap₂ (λ (made : List MadeEdit) (backs : List Back). kept_both made backs) c.in_ok-made.ensures c.in_ok-cards.ensures.backs
    ∙ kept-batch version by edits before in
    let past : c.trim.new.self ≡ past_after version by edits before inside.past = c.trim.ensures ∙ ap trimmed (c.in_ok-append.ensures ∙ ap (λ (more : List KeptEdit). with_edits more inside.past) kept) in
    record {
      few = subst (λ (after : List Card). length after ≤ 20000) (sym cards) (edited_by-few c.args.edits.now c.self.inside.cards applies c.self.invariant.few);
      its_object = search rules;
      led = subst (λ (p : Past). IsPastOf p.edits c.in_ok-cards.cards) (sym past)
          (subst (λ (after : List Card). IsPastOf (past_after version by edits before inside.past).edits after) (sym cards) (past-more version by edits before inside.past c.self.invariant.led applies));
    }

pub returns : goal.returns
returns c =
    let inside = c.self.inside in
    let version = c.args.version in
    let by = c.args.by.now in
    let edits = c.args.edits.now in
    let before = inside.cards in
    let deck : List Card → List Edit → Past → DeskDeck =
    λ cards waiting past. record { name = inside.name; cards = cards; identity = inside.identity; version = version; built = false; kept = inside.kept; waiting = waiting; lease = inside.lease; past = past } in
    let kept = ap₂ (λ (made : List MadeEdit) (backs : List Back). kept_both made backs) c.in_ok-made.ensures c.in_ok-cards.ensures.backs
    ∙ kept-batch version by edits before in
    let cards = c.in_ok-cards.ensures.cards in
    let keeps = c.keeps_edits-keeps.ensures ∙ sym (ap (λ (d : DeskDeck). is_some d.kept || is_some d.lease) c.self.view_is) in
    let waiting = c.in_default.ensures ∙ ap (λ (b : Bool). cond b (inside.waiting.items ++ edits) inside.waiting.items) keeps in
    let past = c.trim.ensures ∙ ap trimmed (c.in_ok-append.ensures ∙ ap (λ (more : List KeptEdit). with_edits more inside.past) kept) in
    ap (λ (cs : List Card). deck cs c.wait_all.new.waiting.items c.trim.new.self) cards
    ∙ (ap (λ (ws : List Edit). deck (edited_by edits before) ws c.trim.new.self) waiting
    ∙ (ap (λ (p : Past). deck (edited_by edits before) (cond (is_some inside.kept || is_some inside.lease) (inside.waiting.items ++ edits) inside.waiting.items) p) past
    ∙ ap (λ (d : DeskDeck). edited_deck version by edits d) c.self.view_is))
