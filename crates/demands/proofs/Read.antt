-- What a walk has read, step by step, where everything is present and nothing is surplus.
use mathlib.Core.Path.{◌∙◌, ◌≡◌, ap, ap₂, refl, subst, sym}
use mathlib.Core.Bool.{Bool}
use mathlib.Core.List.{List, ◌∷◌}
use Prim.Native.Nat.{◌+◌, ◌<◌, ◌≤◌, ℕ}
use lib.ListN.{length}
use borrow.Author.Tests.{le-leb, leb-true, ltb-true}
use Rattle.layout.specs.Result.{Result, done, when◌then◌else◌}
use Rattle.layout.specs.Octets.{null16, number16}
use Rattle.layout.specs.Book.{Data, Groups, Shape, data_sinces, group_sinces, more, need}
use Rattle.layout.specs.Values.{Values, group}
use Rattle.layout.specs.Message.{Dimension, count_at, count_good, dimension_size, inside, read_block, read_data, read_datas}
use Rattle.layout.specs.Message.{read_dimension, read_entries, read_group, read_groups, surplus}
use Rattle.layout.proofs.Results.{and_left, and_right, inv_bind, inv_both, inv_must}
use Rattle.layout.proofs.Counts.{OwnCounts, good_counts}
use Rattle.layout.specs.declared.Answer.{Answer}
use Rattle.layout.specs.declared.Answer.TheVariants.{Group, Octets}

module _ (big : Bool) (m : List ℕ) (v : ℕ) where
  pub record DataRead (at : ℕ) (a : Answer × ℕ) : Type 0 where
    pub head : at + 2 ≤ length m
    pub whole : number16 big m at < null16
    pub fits : at + 2 + number16 big m at ≤ length m
    pub is : (Octets (at + 2) (number16 big m at), at + 2 + number16 big m at) ≡ a

  pub data_read_lem : (at : ℕ) (a : Answer × ℕ) → read_data big m at ≡ done a → DataRead at a
  unfolding read_data
  data_read_lem at a e =
      let p = inv_bind _ _ _ e in
      let q = inv_both _ _ _ _ p.next in
      record {
        head = leb-true (at + 2) (length m) (inv_must _ _ _ _ p.first);
        whole = ltb-true (number16 big m at) null16 (inv_must _ _ _ _ q.first);
        fits = leb-true (at + 2 + number16 big m at) (length m) (inv_must _ _ _ _ q.second);
        is = q.is;
      }

  pub record DatasRead (ds : List Data) (at : ℕ) (r : List Answer × ℕ) : Type 0 where
    pub first : Answer × ℕ
    pub rest : List Answer × ℕ
    pub reads : read_data big m at ≡ done first
    pub after : read_datas big m v ds 0 first.1 ≡ done rest
    pub is : (first.0 ∷ rest.0, rest.1) ≡ r

  pub datas_read_lem : (d : Data) (ds : List Data) (at : ℕ) (r : List Answer × ℕ) → d.since ≤ v
      → read_datas big m v (d ∷ ds) 0 at ≡ done r
      → DatasRead ds at r
  unfolding read_datas when◌then◌else◌
  datas_read_lem d ds at r u e =
      let p = inv_both _ _ _ _ (rw (le-leb d.since v u) at e) in
      record { first = p.value; rest = p.other; reads = p.first; after = p.second; is = p.is }

module _ (counted big : Bool) (m : List ℕ) where
  -- What a dimension that was read says.
  pub record DimensionRead (at : ℕ) (d : Dimension) : Type 0 where
    pub fits : at + dimension_size counted ≤ length m
    pub whole : d.entries < null16
    pub length_is : d.length ≡ number16 big m at
    pub entries_is : d.entries ≡ number16 big m (at + 2)
    pub groups_is : d.groups ≡ count_at counted big m (at + 4)
    pub datas_is : d.datas ≡ count_at counted big m (at + 4 + 2)

  pub dimension_read : (at : ℕ) (d : Dimension) → read_dimension counted big m at ≡ done d → DimensionRead at d
  unfolding read_dimension
  dimension_read at d e =
      let p = inv_both _ _ _ _ e in
      subst (DimensionRead at) p.is
      (record {
        fits = leb-true (at + dimension_size counted) (length m) (inv_must _ _ _ _ p.first);
        whole = ltb-true (number16 big m (at + 2)) null16 (and_left _ _ (and_right _ _ (inv_must _ _ _ _ p.second)));
        length_is = refl;
        entries_is = refl;
        groups_is = refl;
        datas_is = refl;
      })

  -- "Let v be the message's version", and the book's.
  module _ (v : ℕ) where
    -- A group that is present, and the groups `rest` after it.
    pub record GroupRead (levels : ℕ) (s : Shape) (inner rest : Groups) (at : ℕ) (r : Values × ℕ) : Type 0 where
      pub sizes : Dimension
      pub entries : Values × ℕ
      pub others : Values × ℕ
      pub dimension : DimensionRead at sizes
      pub enough : need v s ≤ sizes.length
      pub counts : OwnCounts counted v inner s.datas big m (at + 4)
      pub reads : read_entries sizes.entries
          (read_block big m v s (read_groups counted v big m v inner (inside levels) 0) 0 sizes.length)
          (at + dimension_size counted)
          ≡ done entries
      pub after : read_groups counted v big m v rest levels 0 entries.1 ≡ done others
      pub is : (group (Group sizes.entries) entries.0 others.0, others.1) ≡ r

    pub group_read_lem : (i since : ℕ) (s : Shape) (inner rest : Groups) (levels at : ℕ) (r : Values × ℕ) → since ≤ v
        → read_groups counted v big m v (more i since s inner rest) levels 0 at ≡ done r
        → GroupRead levels s inner rest at r
    unfolding read_groups read_group when◌then◌else◌
    group_read_lem i since s inner rest levels at r u e =
        let p = inv_both _ _ _ _ (rw (le-leb since v u) at e) in
        let d = inv_bind _ _ _ p.first in
        let long = inv_bind _ _ _ d.next in
        let good = inv_both _ _ _ _ long.next in
        let k = dimension_read at d.value d.first in
        let groups = group_sinces inner in
        let datas = data_sinces s.datas in
        let tests = inv_must _ _ _ _ good.first in
        let counts = good_counts counted v inner s.datas big m (at + 4)
        (ap (count_good counted v v groups) (sym k.groups_is) ∙ and_left _ _ tests)
        (ap (count_good counted v v datas) (sym k.datas_is) ∙ and_right _ _ tests) in
        let run : ℕ → ℕ → Result (Values × ℕ) = λ g n. read_entries d.value.entries
        (read_block big m v s (read_groups counted v big m v inner (inside levels) g) n d.value.length)
        (at + dimension_size counted) in
        record {
          sizes = d.value;
          entries = good.other;
          others = p.other;
          dimension = k;
          enough = leb-true (need v s) d.value.length (inv_must _ _ _ _ long.first);
          counts = counts;
          reads = sym (ap₂ run (ap (surplus v groups) k.groups_is ∙ counts.no_groups)
              (ap (surplus v datas) k.datas_is ∙ counts.no_datas)) ∙ good.second;
          after = ap (λ (x : Answer × Values × ℕ). read_groups counted v big m v rest levels 0 x.2) good.is
              ∙ p.second;
          is = ap (λ (x : Answer × Values × ℕ). (group x.0 x.1 p.other.0, p.other.1)) good.is ∙ p.is;
        }
