-- The clock can't go back: the new times of a tick are fine, what is held after it is old or new, and the clock after it is not below the clock before it, in every state
-- that the types of code allow, fit or not. Every tick keeps what those types say, and every build gives it. Assumes nothing.
use Rattle.std.proofs.Common.{Option, Some, None}
use mathlib.Core.Path.{◌≡◌, refl, sym, subst}
use mathlib.Core.Logic.{◌⊎◌, inl, inr}
use mathlib.Core.Bool.{Bool, true, false, not, cond, true≢false}
use mathlib.Core.List.{List, [], ◌∷◌}
use Prim.Native.Nat.{ℕ}
use lib.Dec.{T}
use lib.Ieee.{Float, binary64, lt, le, fits, is_nan}
use lib.Ieee.Fits.{add-fits}
use Rattle.quantities.specs.declared.time.Time.{Time}
use Rattle.quantities.specs.Doubles.{power, largest}
use Rattle.quantities.specs.Units.{span_of, time_of, span_after}
use Rattle.quantities.specs.NewTime.{FineTime, Double}
use Rattle.quantities.proofs.Order.{le_trans, le_refl, le_known_r, later-left}
use Rattle.sender.specs.declared.lossy.SenderState.{SenderState}
use Rattle.sender.specs.declared.lossy.SenderState.TheVariants as State
use Rattle.sender.specs.declared.lossy.Policy.{Policy}
use Rattle.remy.specs.declared.network.RemyNetwork.{RemyNetwork}
use Rattle.remy.specs.declared.simulation.Simulation.{Simulation}
use Rattle.remy.specs.declared.simulation.TickRecord.{TickRecord}
use Rattle.remy.specs.declared.simulation.Ticked.{Ticked}
use Rattle.remy.specs.State.{Role, line_at, sender_at, queued_at, on_line_items}
use Rattle.remy.specs.Build.{build_of}
use Rattle.remy.specs.Tick.{tick_of}
use Rattle.remy.specs.NewTimes.{part_times, new_times}
use Rattle.remy.specs.HeldTimes.{Full, Kinds, IfAny, timer_of, due_times, Holds, Has}
use Rattle.remy.specs.History.{Call, tick, after, noted, history, Fresh}
use Rattle.remy.proofs.Lists.{All, all_map, all_mapped, all_member, member_all}
use Rattle.remy.proofs.Facts.{FitState}
use Rattle.remy.proofs.Plain.{Plain, PlainOrLeast, plain}
use Rattle.remy.proofs.Roles.{Real}
use Rattle.remy.proofs.NewTimes.{part_has, part_fine, new_times_fine}
use Rattle.remy.proofs.HeldTimes.{any_map, Every, Closed, tick_held, tick_has}
use Rattle.remy.proofs.Start.{fresh_kept, build_elim}
use Rattle.remy.proofs.Account.{unmoved-same}
use Rattle.steady.specs.Clock.{doubles, Typed, old_or_new, Onward, Rising, NeverBack}
use Rattle.steady.proofs.Facts.{NotAfter, TimerOk, StateOk}
use Rattle.steady.proofs.Ahead.{held_known, queued_ahead}
use Rattle.steady.proofs.Open.{clock-held, free_held, queued_held, dues_ahead, toggle-ahead, part_ok}

-- ---- doubles stay doubles

doubles_closed : (c : Time) → Double c → Closed doubles c
doubles_closed c d = record { now = d; last = unfold fits in tt; freed = λ l t e. by t e (lt c.0.0 t.0.0); left = λ l t e. e; fired = λ i t e. e; turned = λ i t e. e }
  where
    by : (t : Time) → Double t → (b : Bool) → Double (time_of (cond b t.0.0 c.0.0))
    by t e true = e
    by t e false = d

new_doubles : (s : Simulation) → Double s.head.clock → FitState s → (role : Role) → Real s.network role → All (Every doubles) (part_times s role)
new_doubles s d f role real =
    all_map Double (Every doubles) (λ t e. record { free = λ l. e; due = λ l. e; timer = λ i. e; toggle = λ i. e }) (part_times s role)
    (part_has s f Double (λ bits rate w. sum _) (λ delay w. sum _) (λ gap w. sum gap) (λ draw w. sum draw) role real)
  where
    -- a sum is rounded to a double, whatever its parts are
    sum : (span : Float) → Double (span_after s.head.clock (span_of span))
    sum span = add-fits binary64 s.head.clock.0.0 span

pub tick_typed : (s : Simulation) → Typed s → Typed (tick_of s).simulation
tick_typed = tick_has doubles doubles_closed new_doubles

-- ---- what is held is old or new

any_self : (P : Time → Type 0) (o : Option Time) → IfAny (λ t. (o ≡ Some t) ⊎ P t) o
any_self P None = tt
any_self P (Some t) = inl refl

any_unit : (o : Option Time) → IfAny (λ t. Unit {0}) o
any_unit None = tt
any_unit (Some t) = tt

old-held : (s : Simulation) (ts : List Time) → Holds (old_or_new s ts) s
old-held s ts =
    record {
      free = λ l h. inl refl;
      due = λ l h t m. inl m;
      timer = λ i h. any_self _ (timer_of (sender_at s i).state);
      toggle = λ i h. inl refl;
      queued = λ j h. any_unit (queued_at s j);
    }

old-or_new : (s : Simulation) → Full s → Holds (old_or_new s (new_times s)) (tick_of s).simulation
old-or_new s full =
    tick_held (λ t ts. Holds (old_or_new s ts) t.simulation) s full (λ number ts. old-held s ts)
    (λ f early j next role real.
    let ts = part_times s role in
    let k = old_or_new s ts in (
      k,
      (
        record { now = tt; last = tt; freed = λ l t e. tt; left = λ l t e. tt; fired = λ i t e. tt; turned = λ i t e. tt },
        old-held s ts,
        member_all (Every k) ts (λ t m. record { free = λ l. inr m; due = λ l. inr m; timer = λ i. inr m; toggle = λ i. inr m }),
        λ r m now h. h.held,
      ),
    ))

-- ---- times from the clock on stay so

abbrev ahead : Time → Kinds
ahead c = record { free = λ l t. T (not (is_nan t.0.0)); due = λ l. NotAfter c; timer = λ i. NotAfter c; toggle = λ i. NotAfter c; queued = NotAfter c }

state_from : (policy : Policy) (clock : Time) (x : SenderState) → StateOk policy clock x → IfAny (NotAfter clock) (timer_of x)
state_from policy clock State.WaitingForEnable ok = tt
state_from policy clock (State.Enabled e) ok = any_map (TimerOk policy clock) (NotAfter clock) (λ t k. k.ahead) e.timer ok.timer

module _ (s : Simulation) (y : Typed s) (f : FitState s) (early : lt (power 40) s.head.clock.0.0 ≡ false) (j : ℕ) (next : s.head.next ≡ Some j) where
  known : T (not (is_nan s.head.clock.0.0))
  known = held_known s.head.clock (clock-held s j f y.full next)

  ahead-held : Holds (ahead s.head.clock) s
  ahead-held =
      record {
        free = λ l h. held_known (line_at s l).earliest_transmit (free_held s j f y.full next l h);
        due = λ l h.
            all_member (NotAfter s.head.clock) (due_times s l) (all_mapped (NotAfter s.head.clock) (λ x. x.due) (on_line_items s l) (dues_ahead s j f y.full next l h));
        timer = λ i h. state_from s.network.policy s.head.clock (sender_at s i).state (part_ok s j f y.full next i h).state;
        toggle = λ i h. toggle-ahead s j f y.full next i h;
        queued = λ k h. (queued_ahead s (queued_at s k) (queued_held s j f y.full next k h)).from;
      }

  ahead_closed : Closed (ahead s.head.clock) s.head.clock
  ahead_closed =
      record {
        now = le_refl s.head.clock.0.0 known;
        last = le_trans s.head.clock.0.0 (power 41) largest (clock-held s j f y.full next) (unfold le in tt);
        freed = λ l t n. later-left s.head.clock.0.0 t.0.0 known n;
        left = λ l t a. a;
        fired = λ i t a. a;
        turned = λ i t a. a;
      }

  new_from : (role : Role) → Real s.network role → All (Every (ahead s.head.clock)) (part_times s role)
  new_from role real =
      all_map (FineTime s.head.clock) (Every (ahead s.head.clock))
      (λ t x. record { free = λ l. le_known_r s.head.clock.0.0 t.0.0 x.ahead; due = λ l. x.ahead; timer = λ i. x.ahead; toggle = λ i. x.ahead }) (part_times s role)
      (part_fine s y.clock f early role real)

-- a tick that moved: its record is at the clock, which is no NaN, and the next clock is not before it
record Stepped (s : Simulation) (t : Ticked) : Type 0 where
  now : t.note.time ≡ s.head.clock
  known : NotAfter s.head.clock s.head.clock
  next : NotAfter s.head.clock t.simulation.head.clock

stepped : (s : Simulation) → Typed s → (tick_of s).moved ≡ true → Stepped s (tick_of s)
stepped s y =
    let F : Ticked → List Time → Type 0 = λ t ts. t.moved ≡ true → Stepped s t in
    tick_held F s y.full (λ number ts e. absurd (true≢false (sym e)))
    (λ f early j next role real. (
      ahead s.head.clock,
      (
        ahead_closed s y f early j next,
        ahead-held s y f early j next,
        new_from s y f early j next role real,
        λ r m now h e. record { now = now; known = le_refl s.head.clock.0.0 (known s y f early j next); next = h.clock },
      ),
    ))

-- ---- one tick

onward : (s : Simulation) → Typed s → Onward s
onward s y = record { fine = new_times_fine s y.clock; held = old-or_new s y.full; clock = λ e. (stepped s y e).next }

-- ---- every list of calls

after_typed : (cs : List Call) (s : Simulation) → Typed s → Typed (after cs s)
after_typed [] s y = y
after_typed (tick ∷ cs) s y = after_typed cs (tick_of s).simulation (tick_typed s y)

-- a list that rises from u rises from any time that is not after u
rising_from : (t u : Time) (h : List TickRecord) → NotAfter t u → Rising u h → Rising t h
rising_from t u [] a r = tt
rising_from t u (x ∷ xs) a r = (le_trans t.0.0 u.0.0 x.time.0.0 a r.0, r.1)

rising-tick : (s : Simulation) → Typed s → (h : List TickRecord) → Rising (tick_of s).simulation.head.clock h → Rising s.head.clock (noted (tick_of s) h)
rising-tick s y h rest = by (tick_of s).moved refl
  where
    by : (b : Bool) → (tick_of s).moved ≡ b → Rising s.head.clock (cond b ((tick_of s).note ∷ h) h)
    by true e =
        let k = stepped s y e in (
          subst (NotAfter s.head.clock) (sym k.now) k.known,
          subst (λ (t : Time). Rising t h) (sym k.now) (rising_from s.head.clock (tick_of s).simulation.head.clock h k.next rest),
        )
    by false e = subst (λ (m : Simulation). Rising m.head.clock h) (unmoved-same s e) rest

rising-history : (cs : List Call) (s : Simulation) → Typed s → Rising s.head.clock (history cs s)
rising-history [] s y = tt
rising-history (tick ∷ cs) s y = rising-tick s y (history cs (tick_of s).simulation) (rising-history cs (tick_of s).simulation (tick_typed s y))

pub never_back : (s : Simulation) → Typed s → NeverBack s
never_back s y cs = (onward (after cs s) (after_typed cs s y), rising-history cs s y)

-- ---- every build

free_double : (t : Time) → PlainOrLeast t → Double t
free_double t (inl p) = p.double
free_double t (inr e) = subst Double (sym e) (unfold fits in tt)

-- a plain time is a double
plain_typed : (s : Simulation) → Has plain s → Typed s
plain_typed s y =
    record {
      full = y.full;
      clock = y.clock.double;
      held =
          record {
            free = λ l h. free_double (line_at s l).earliest_transmit (y.held.free l h);
            due = λ l h t m. (y.held.due l h t m).double;
            timer = λ i h. any_map Plain Double (λ t p. p.double) (timer_of (sender_at s i).state) (y.held.timer i h);
            toggle = λ i h. (y.held.toggle i h).double;
            queued = λ j h. any_map Plain Double (λ t p. p.double) (queued_at s j) (y.held.queued j h);
          };
    }

pub fresh_typed : (n : RemyNetwork) (s : Simulation) → Fresh n s → Typed s
fresh_typed n s fresh = plain_typed s (fresh_kept n s fresh).plain

pub built_typed : (n : RemyNetwork) (seed : ℕ) → Typed (build_of n seed).simulation
built_typed = build_elim Typed fresh_typed
