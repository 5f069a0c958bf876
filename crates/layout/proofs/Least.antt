-- No message of a template is shorter than what rule 7 measures.
use mathlib.Core.Path.{◌≡◌, subst}
use mathlib.Core.Bool.{Bool}
use mathlib.Core.List.{List, [], ◌∷◌}
use Prim.Native.Nat.{◌*◌, ◌+◌, ◌≤◌, suc, ℕ}
use native.Mathlib.Omega.{arith}
use lib.ListN.{length}
use Rattle.layout.specs.Result.{done}
use Rattle.layout.specs.Book.{Book, Data, Groups, Shape, Template, group_sinces, more, none}
use Rattle.layout.specs.BookRules.{least_length}
use Rattle.layout.specs.Values.{Values, entry, nil}
use Rattle.layout.specs.Message.{Entry, dimension_size}
use Rattle.layout.specs.Writing.{datas_length, judge_block, judge_datas, judge_groups, judge_listing, row_length}
use Rattle.layout.specs.Writing.{written_length}
use Rattle.layout.proofs.Results.{inv_bind, inv_both}
use Rattle.layout.specs.declared.Answer.{Answer}

module _ (counted : Bool) (l pool : List ℕ) where
  -- "two octets per root data"
  datas_least : (ds : List Data) (i : ℕ) (r : List Answer × ℕ) → judge_datas l pool ds i ≡ done r
      → 2 * length ds ≤ datas_length r.0
  unfolding judge_datas datas_length
  datas_least [] i r e = omega arith
  datas_least (d ∷ ds) i r e =
      let p = inv_both _ _ _ _ e in
      subst (λ (x : List Answer × ℕ). 2 * suc (length ds) ≤ datas_length x.0) p.is
      (omega (arith, datas_least ds (suc i) p.other p.second))

  -- "one dimension per root group"
  groups_least : (s : Shape) (gs : Groups) (i : ℕ) (r : Values × ℕ) → judge_groups l pool gs i ≡ done r
      → dimension_size counted * length (group_sinces gs) ≤ row_length counted s gs r.0
  unfolding judge_groups row_length group_sinces
  groups_least s none i r e = omega arith
  groups_least s (more id since sh inner rest) i r e =
      let p = inv_both _ _ _ _ (inv_bind _ _ _ (inv_bind _ _ _ e).next).next in
      subst (λ (x : Values × ℕ). dimension_size counted * suc (length (group_sinces rest))
      ≤ row_length counted s (more id since sh inner rest) x.0) p.is
      (omega (arith, groups_least s rest p.value.1 p.other p.second))

  block_least : (s : Shape) (gs : Groups) (x : Entry) → judge_block l pool s (judge_groups l pool gs) 0 ≡ done x
      → s.length + dimension_size counted * length (group_sinces gs) + 2 * length s.datas
      ≤ row_length counted s gs (entry x.0 x.1 x.2 nil)
  unfolding judge_block row_length
  block_least s gs x e =
      let f = inv_bind _ _ _ e in
      let p = inv_both _ _ _ _ f.next in
      let groups = groups_least s gs f.value.1 p.value p.first in
      let datas = datas_least s.datas p.value.1 p.other p.second in
      subst (λ (y : Entry). s.length + dimension_size counted * length (group_sinces gs) + 2 * length s.datas
      ≤ row_length counted s gs (entry y.0 y.1 y.2 nil)) p.is (omega (arith, groups, datas))

-- Of the message for a listing that was judged to be r.
pub least_written : (l pool : List ℕ) (b : Book) (t : Template) (r : Values) → judge_listing l pool t ≡ done r
    → least_length b.format t.shape t.groups ≤ written_length b t r
unfolding judge_listing
least_written l pool b t r e =
    let p = inv_both _ _ _ _ e in
    subst (λ (x : Values). least_length b.format t.shape t.groups ≤ written_length b t x) p.is
    (omega (arith, block_least b.format.in_groups l pool t.shape t.groups p.value p.first))
