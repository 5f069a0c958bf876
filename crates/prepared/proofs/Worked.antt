-- The prepared form of the worked case, number by number: the checker computes it.
use Rattle.std.specs.Prelude.{◌≡◌, refl, [], ◌++◌, ◌∷◌, ◌+◌, ◌-◌, ◌^◌, replicate}
use Rattle.layout.specs.Result.{◌and◌, when◌then◌else◌}
use Rattle.layout.specs.Types.{type_at}
use Rattle.layout.specs.Book.{group_sinces, need_after}
use Rattle.prepared.specs.Numbers.{bodies_of, contents_of, datas_of, fields_of, groups_of, groups_size, prepared_of}
use Rattle.prepared.specs.Numbers.{lists_numbers, lists_size, mask_of, place_of, slots_of, table_of}
use Rattle.prepared.specs.Cases.{small}

-- Slot 5 leads to template 69. The list stands at 72, the template's block at 78, and the group's at 103.
pub small_prepared : prepared_of small
    ≡ (7 ∷ 1 ∷ 1 ∷ 1 ∷ 1 ∷ 8 ∷ []) ++ (replicate 5 0 ++ 78 ∷ replicate 58 0) ++ (69 ∷ 78 ∷ [])
    ++ (3 ∷ 1 ∷ 17 ∷ 2 ∷ 0 ∷ 4 ∷ [])
    ++ (69 ∷ 0 ∷ 8 ∷ 1 ∷ 1 ∷ 0 ∷ 2 ∷ 256 ∷ 128 ∷ 103 ∷ 97 ∷ 97 ∷ [])
    ++ (1 ∷ 4 ∷ 1 ∷ 0 ∷ 0 ∷ 0 ∷ 4 ∷ []) ++ (9 ∷ 0 ∷ 65534 ∷ 65535 ∷ 2 ∷ 72 ∷ [])
    ++ (9 ∷ 1 ∷ 4 ∷ 1 ∷ 0 ∷ 0 ∷ 4 ∷ 0 ∷ 128 ∷ 128 ∷ 122 ∷ 122 ∷ [])
    ++ (2 ∷ 5 ∷ 1 ∷ 0 ∷ 0 ∷ 1 ∷ 0 ∷ []) ++ (11 ∷ (2 ^ 64 - 2 ^ 31 + 1) ∷ (2 ^ 32 - 2) ∷ (2 ^ 64 - 2 ^ 31) ∷ 4 ∷ 0 ∷ [])
unfolding prepared_of slots_of contents_of bodies_of lists_numbers lists_size mask_of place_of groups_of groups_size fields_of
    datas_of table_of group_sinces need_after when◌then◌else◌ type_at ◌and◌
small_prepared = refl
