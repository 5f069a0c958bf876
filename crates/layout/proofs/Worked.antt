-- The worked cases hold: the checker computes them.
use Rattle.std.specs.Prelude.{◌≡◌, refl, [], ◌∷◌, map}
use Rattle.layout.specs.All.{all}
use Rattle.layout.specs.Result.{◌and◌, when◌then◌else◌}
use Rattle.layout.specs.Types.{type_at}
use Rattle.layout.specs.Reasons.{number_of}
use Rattle.layout.specs.Cases.{Row, answer, table, type_table}
use Rattle.layout.specs.declared.Reason.TheVariants.{BookBlock, BookContents, BookHead, BookLayout, BookSince, BookSize, BookUnsendable, CountsWrong, DataLengthNull, DimensionNull, EntriesTooMany, EntryMissing, GroupBlockShort, GroupCountsWrong, GroupTooDeep, HeaderNull, MessageSize, MessageTooLong, OctetsLeftOver, OctetsWrong, PastTheEnd, PlaceUnknown, RecordWrong, RoomTooSmall, RootBlockShort, SchemaDiffers, TemplateUnknown, ValueWrong, WriteTemplateUnknown}

-- Its nine rows are what the rule gives for the types 0 to 8.
pub nine_rows : map type_at (0 ∷ 1 ∷ 2 ∷ 3 ∷ 4 ∷ 5 ∷ 6 ∷ 7 ∷ 8 ∷ []) ≡ type_table
unfolding type_at when◌then◌else◌ ◌and◌
nine_rows = refl

pub all_hold : map (λ (r : Row). answer r.case) table ≡ map (λ (r : Row). r.says) table
unfolding all table
all_hold = refl

-- Every reason has the number that the documents give for it.
pub numbers_hold : map number_of
    (BookSize ∷ BookHead ∷ BookContents ∷ BookBlock ∷ BookLayout ∷ BookSince ∷ BookUnsendable ∷ MessageSize ∷
    HeaderNull ∷ SchemaDiffers ∷ TemplateUnknown ∷ RootBlockShort ∷ CountsWrong ∷ PastTheEnd ∷ DimensionNull ∷
    GroupBlockShort ∷ DataLengthNull ∷ OctetsLeftOver ∷ GroupCountsWrong ∷ GroupTooDeep ∷ PlaceUnknown ∷
    EntryMissing ∷ RoomTooSmall ∷ WriteTemplateUnknown ∷ RecordWrong ∷ ValueWrong ∷ OctetsWrong ∷ EntriesTooMany ∷
    MessageTooLong ∷ [])
    ≡ 1 ∷ 2 ∷ 3 ∷ 4 ∷ 5 ∷ 6 ∷ 7 ∷ 10 ∷ 11 ∷ 12 ∷ 13 ∷ 14 ∷ 15 ∷ 16 ∷ 17 ∷ 18 ∷ 19 ∷ 20 ∷ 21 ∷ 22 ∷ 30 ∷ 31 ∷ 40 ∷ 50 ∷
    51 ∷ 52 ∷ 53 ∷ 54 ∷ 55 ∷ []
unfolding number_of
numbers_hold = refl
