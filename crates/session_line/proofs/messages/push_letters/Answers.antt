use Rattle.std.proofs.Common.{◌+◌, List, drop, get_or, subst, ◌∷◌, []}
use Rattle.session_line.{specs.Messages.{Lettered, Message, lettered}, proofs.MessageSteps.{IsSoFar, adds-one, far-end, far-more, letters-end, letters-next}}
use Rattle.session_line.proofs.messages.push_letters.Goals as goal

pub loop-letter-preserved : goal.loop-letter-preserved
loop-letter-preserved c =
    let name = c.args.name.now in
    let number = c.args.number in
    let letters = c.args.letters.now in
    let i = c.loop-letter.letter-index in
    let all = lettered number letters in
    let of : Lettered = record { number = number; letter = get_or letters i 0 } in
    let said : Message = record { card = c.in_ok-said.said.card; column = c.in_ok-said.said.column; words = c.in_ok-said.said.words } in
    far-more name all (of ∷ []) (lettered number (drop (i + 1) letters)) c.args.text.now c.loop-letter.text c.push_message.new.text
    (subst (λ (left : List Lettered). IsSoFar name all left c.args.text.now c.loop-letter.text) (letters-next number letters i 0 c.loop-letter-test.true) c.loop-letter.invariant)
    (adds-one name of said c.loop-letter.text c.push_message.new.text c.in_ok-said.ensures.lawful c.in_ok-push_message.ensures)

pub returns : goal.returns
returns c =
    let letters = c.args.letters.now in
    let i = c.loop-letter.letter-index in
    far-end c.args.name.now (lettered c.args.number letters) (lettered c.args.number (drop i letters)) c.args.text.now c.loop-letter.text c.loop-letter.invariant
    (letters-end c.args.number letters i c.loop-letter-test.false)
