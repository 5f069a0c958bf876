-- The number of each reason: what is told outside, and what the rules and the tables of the documents name.
use Rattle.std.specs.Prelude.{ℕ}
use Rattle.layout.specs.declared.Reason.{Reason}
use Rattle.layout.specs.declared.Reason.TheVariants.{BookBlock, BookContents, BookHead, BookLayout, BookSince, BookSize, BookUnsendable, CountsWrong, DataLengthNull, DimensionNull, EntriesTooMany, EntryMissing, GroupBlockShort, GroupCountsWrong, GroupTooDeep, HeaderNull, MessageSize, MessageTooLong, OctetsLeftOver, OctetsWrong, PastTheEnd, PlaceUnknown, RecordWrong, RoomTooSmall, RootBlockShort, SchemaDiffers, TemplateUnknown, ValueWrong, WriteTemplateUnknown}

unfoldable pub number_of : Reason → ℕ
number_of BookSize = 1
number_of BookHead = 2
number_of BookContents = 3
number_of BookBlock = 4
number_of BookLayout = 5
number_of BookSince = 6
number_of BookUnsendable = 7
number_of MessageSize = 10
number_of HeaderNull = 11
number_of SchemaDiffers = 12
number_of TemplateUnknown = 13
number_of RootBlockShort = 14
number_of CountsWrong = 15
number_of PastTheEnd = 16
number_of DimensionNull = 17
number_of GroupBlockShort = 18
number_of DataLengthNull = 19
number_of OctetsLeftOver = 20
number_of GroupCountsWrong = 21
number_of GroupTooDeep = 22
number_of PlaceUnknown = 30
number_of EntryMissing = 31
number_of RoomTooSmall = 40
number_of WriteTemplateUnknown = 50
number_of RecordWrong = 51
number_of ValueWrong = 52
number_of OctetsWrong = 53
number_of EntriesTooMany = 54
number_of MessageTooLong = 55
