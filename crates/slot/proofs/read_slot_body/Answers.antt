use native.Mathlib.Omega.{arith}
use mathlib.Core.Logic.{inl, inr, ⊎_elim}
use mathlib.Core.Path.{sym, ◌∙◌}
use Rattle.number.specs.Grammar.{read}
use Rattle.number.specs.Answers.{follow}
use Rattle.number.proofs.Reading.{next_make}
use Rattle.tree.proofs.Ranges.{past}
use Rattle.slot.specs.Slot.{message, enum, flags, union, newtype, alias, trait, impl, slot_table, slot_body_at}
use Rattle.slot.proofs.Steps.{past_table}
use Rattle.slot.proofs.read_slot_body.Goals as goal

pub returns-in-0 : goal.returns-in-0
unfolding slot_body_at read
returns-in-0 c = ⊎_elim (λ e. rw e) (λ e. rw e) c.in-0.is

pub returns-in-1 : goal.returns-in-1
unfolding slot_body_at follow
returns-in-1 c = rw c.in-1.is (c.skip_message.ensures ∙ sym (next_make _ message _ _))

pub returns-in-2 : goal.returns-in-2
unfolding slot_body_at follow
returns-in-2 c = rw c.in-2.is (c.skip_enum.ensures ∙ sym (next_make _ enum _ _))

pub returns-in-3 : goal.returns-in-3
unfolding slot_body_at follow
returns-in-3 c = rw c.in-3.is (c.skip_flags.ensures ∙ sym (next_make _ flags _ _))

pub returns-in-4 : goal.returns-in-4
unfolding slot_body_at follow
returns-in-4 c = rw c.in-4.is (c.skip_union.ensures ∙ sym (next_make _ union _ _))

pub returns-in-5 : goal.returns-in-5
unfolding slot_body_at follow
returns-in-5 c = rw c.in-5.is (c.skip_newtype.ensures ∙ sym (next_make _ newtype _ _))

pub returns-in-7 : goal.returns-in-7
unfolding slot_body_at follow
returns-in-7 c = rw c.in-7.is (c.skip_alias.ensures ∙ sym (next_make _ alias _ _))

pub returns-in-8 : goal.returns-in-8
unfolding slot_body_at follow
returns-in-8 c = rw c.in-8.is (c.skip_trait.ensures ∙ sym (next_make _ trait _ _))

pub returns-in-9 : goal.returns-in-9
unfolding slot_body_at follow
returns-in-9 c = rw c.in-9.is (c.skip_impl.ensures ∙ sym (next_make _ impl _ _))

pub returns-in_default : goal.returns-in_default
unfolding slot_body_at
returns-in_default c = let r = c.in_default.in_default-own.rest in sym (past_table _ _ (slot_table c.args.edition c.args.names) _ (past 9 _ (past 8 _ (past 7 _ (past 6 _ (past 5 _ (past 4 _ (past 3 _ (past 2 _ (past 1 _ (past 0 _ (omega arith) (λ e. r.0.0.0.0.0.0.0.0.1 (inl e))) r.0.0.0.0.0.0.0.1) r.0.0.0.0.0.0.1) r.0.0.0.0.0.1) r.0.0.0.0.1) r.0.0.0.1) (λ e. r.0.0.0.0.0.0.0.0.1 (inr e))) r.0.0.1) r.0.1) r.1))
