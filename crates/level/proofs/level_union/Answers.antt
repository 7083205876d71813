use native.Mathlib.Nat.{pos_of_ne-zero}
use mathlib.Core.Path.{refl, ap, ◌∙◌}
use Prim.Native.Nat.{ℕ}
use Rattle.number.proofs.Reading.{told, many_length}
use Rattle.settling.proofs.Ended.{not_refused}
use Rattle.wiresize.proofs.Fields.{count_read}
use Rattle.wiresize.proofs.Variants.{union_none, variants_behind, union_ended, union_tagged}
use Rattle.level.specs.Level.{varied_of, visits_by}
use Rattle.level.proofs.Variants.{no_variant_nodes}
use Rattle.level.proofs.level_union.Goals as goal

pub returns-in_default : goal.returns-in_default
returns-in_default c =
    record {
      worked = λ vs end q. absurd (not_refused (told c.read_below.ensures c.in_default.is) (count_read _ _ _ q).2);
      visits = λ vs end q. refl;
    }

pub returns-then-count-eq0 : goal.returns-then-count-eq0
returns-then-count-eq0 c =
    let b = told c.read_below.ensures c.in-Value.is in
    record {
      worked = λ vs end q. union_none _ _ vs (many_length _ _ _ _ vs end (variants_behind _ _ _ _ b q) ∙ c.if-count-eq0.true);
      visits = λ vs end q. no_variant_nodes vs (many_length _ _ _ _ vs end (variants_behind _ _ _ _ b q) ∙ c.if-count-eq0.true);
    }

pub level_variants-requires : goal.level_variants-requires
level_variants-requires c =
    let a = c.requires.0 in
    let b = told c.read_below.ensures c.in-Value.is in
    (record { small = a.small; room = a.room; thing = _; end = _; reads = variants_behind _ _ _ _ b a.reads }, c.requires.1)

pub returns-in-Sized : goal.returns-in-Sized
returns-in-Sized c =
    let b = told c.read_below.ensures c.in-Value.is in
    let v = c.level_variants.ensures in
    let e = c.in-Sized.is in
    record {
      worked = λ vs end q. (union_tagged _ _ _ _ _ _ b v.varies (ap varied_of e) (pos_of_ne-zero c.if-count-eq0.false) c.tag-worked.ensures).worked vs end q _ refl;
      visits = λ vs end q. c.visits_by.ensures ∙ ap (λ (n : ℕ). visits_by c.tag-worked.result n) (v.visits _ _ (variants_behind _ _ _ _ b q) _ _ _ e);
    }

pub returns-in-Over : goal.returns-in-Over
returns-in-Over c =
    let b = told c.read_below.ensures c.in-Value.is in
    let v = c.level_variants.ensures in
    record {
      worked = λ vs end q. (union_ended _ _ _ _ _ _ b v.varies (ap varied_of c.in-Over.is)).worked vs end q _ refl;
      visits = λ vs end q. refl;
    }
