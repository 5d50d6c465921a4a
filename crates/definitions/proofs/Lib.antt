-- The laws, in the order of the definitions that they speak of.
pub mod CharacterLaws
pub mod TestLaws
pub mod TextLaws
pub mod NumeralLaws
pub mod StatementLaws
pub mod FrontLaws
pub mod FieldLaws
pub mod GrammarLaws
pub mod TermLaws
pub mod ExpressionLaws
pub mod PlaceLaws
pub mod LiteralLaws
pub mod LengthLaws
pub mod StateSteps
pub mod NamesLaws
pub mod ViewLaws
pub mod TailLaws
pub mod WordLaws
pub mod BoundLaws
pub mod ReboundLaws
pub mod EditLaws
-- Worked decks, computed.
pub mod WorkedText
pub mod WorkedInputs
pub mod WorkedCards
pub mod WorkedTables
pub mod WorkedCentral
pub mod WorkedKinds
pub mod WorkedPeripheral
pub mod WorkedRules
pub mod WorkedLinks
pub mod WorkedCommons
pub mod WorkedExamples
pub mod WorkedEdits
-- What a value and an item leave in a field, and each field of an operand.
pub mod CodingLaws
pub mod ItemLaws
-- What is known of operands as they are read.
pub mod OperandShapes
pub mod CentralLaws
pub mod OperandLaws
-- The fields of operands.
pub mod FieldRoomLaws
-- The fields of statements.
pub mod FillLaws
-- The places of statements.
pub mod EndLaws
pub mod BareLaws
pub mod RiseLaws
-- The words that statements reach.
pub mod ReachLaws
-- The objects of decks.
pub mod ObjectLaws
pub mod BlockLaws
