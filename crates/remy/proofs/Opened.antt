-- What a proof by computation opens: each name below, on an `unfolding` line, opens the definitions that stand on its own. `fitting` is for the fit test, and
-- `ticking` for a build, a tick, a run and a read. Assumes nothing.
use lib.Ieee.{of_bits, round, units, odd, size, span, climb, add, mul, sub, neg, sum, div, of_int, lt, le, eq}
use Rattle.draws.specs.SplitMix64.{mixed}
use Rattle.draws.specs.Generator.{output_of, moved_on, from_seed, all_zero, replaced, from_words, child_of}
use Rattle.draws.specs.Draws.{sample_of, unit_of, uniform_of, draw_of, redraw}
use Rattle.flows.specs.Sums.{summed_of, average_rtt}
use Rattle.meters.specs.Meter.{start_fit, meter_fit, ready, switched_of, recorded_of, enabled_time, read_of}
use Rattle.link.specs.Link as Link
use Rattle.sender.specs.Sender as Sender
use Rattle.toggler.specs.Toggler.{new_toggler, toggle_of}
use Rattle.toggler.specs.Queue.{sooner, pick_of}
use Rattle.remy.specs.Network.{network_stop}
use Rattle.remy.specs.State.{role_of}
use Rattle.remy.specs.Queue.{own_time, requeue, picked}
use Rattle.remy.specs.Build.{populate, back_words, own_times, queued_all, build_of}
use Rattle.remy.specs.Fit as Fit
use Rattle.remy.specs.Tick.{link_acts, sender_acts, toggler_acts, acts_of, deliver, outcome_of, tick_of}
use Rattle.remy.specs.Run.{run_of}

unfoldable pub doubles : Unit {0}
unfolding of_bits round units odd size span climb add mul sub neg sum div of_int lt le eq
doubles = tt

unfoldable pub draws : Unit {0}
unfolding doubles mixed output_of moved_on from_seed all_zero replaced from_words child_of sample_of unit_of uniform_of draw_of redraw
draws = tt

unfoldable pub meters : Unit {0}
unfolding doubles summed_of average_rtt start_fit meter_fit ready switched_of recorded_of enabled_time read_of
meters = tt

-- each part's own next time
unfoldable pub next_times : Unit {0}
unfolding doubles Link.next_transmit Link.next_deliver Link.next_tick Sender.sender_next role_of own_time
next_times = tt

unfoldable pub fitting : Unit {0}
unfolding next_times mixed from_seed all_zero replaced from_words network_stop Fit.network_fit Fit.rings_fit Fit.packets_fit Fit.bits_fit Fit.clock_fit Fit.held_times_fit Fit.past_fit Fit.totals_fit Fit.sums_fit Fit.records_fit Fit.due_fit Fit.counts_fit Fit.windows_fit Fit.timers_fit Fit.togglers_agree Fit.meters_agree Fit.meter_bits_fit Fit.queue_fit Fit.carried_fit Fit.words_fit Fit.fit
fitting = tt

unfoldable pub link : Unit {0}
unfolding draws Link.admits Link.receive_of Link.is_due Link.try_deliver Link.is_free Link.try_transmit
link = tt

unfoldable pub sender : Unit {0}
unfolding doubles Sender.first_window Sender.window_sent Sender.window_counted Sender.timer_sent Sender.enabled_of Sender.disabled_of Sender.timer_due Sender.tick_timer Sender.tick_send Sender.returned_of
sender = tt

unfoldable pub building : Unit {0}
unfolding draws next_times network_stop new_toggler populate back_words own_times queued_all sooner pick_of picked build_of
building = tt

unfoldable pub ticking : Unit {0}
unfolding building fitting link sender meters toggle_of requeue link_acts sender_acts toggler_acts acts_of deliver outcome_of tick_of run_of
ticking = tt
