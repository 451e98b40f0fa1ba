-- What a call that puts an event to a trail relies on, and that the trail is one that calls can be put to after it. Assumes nothing.
use Prim.Native.Nat.{ℕ, ◌≤◌}
use mathlib.Core.Path.{◌≡◌, ap, sym, ◌∙◌}
use mathlib.Core.List.{List}
use lib.ListN.{length}
use Rattle.std.specs.Prelude.{Result, Err}
use Rattle.replay.specs.Plain.{Ask}
use Rattle.replay.specs.Calls.{ask_code, ask_bytes}
use Rattle.replay.specs.Limits.{record_head}
use Rattle.replay.specs.Ready.{Ready}
use Rattle.replay.proofs.Calls.{bytes-refused, ready-asked}
use Rattle.replay_layout.proofs.RecordLaws.{ready-contents}
use Rattle.replay_event.specs.Answers.{event_answer_code}
use Rattle.replay_event.specs.contracts.EventErrorRefusal.TheImpl.Laws.{not_zero-law}
use Rattle.replay_event.specs.declared.EventError.{EventError}

module _ (w b : List ℕ) (R : Ready w b) where
  pub has_head : record_head ≤ length b
  has_head = ready-contents w b R

  pub bytes_kept : (q : Ask) (r : Result Unit EventError) (x : EventError) → r ≡ Err x → event_answer_code r ≡ ask_code b q → b ≡ ask_bytes b q
  bytes_kept q r x is e = bytes-refused w b R q (λ z. not_zero-law x (sym (ap event_answer_code is) ∙ e ∙ z))

  pub still_ready : (q : Ask) (c : List ℕ) → c ≡ ask_bytes b q → Ready w c
  still_ready q c e = rw e (ready-asked w b R q)
