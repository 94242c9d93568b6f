-- The marked runs and the small comparisons, by computation.
use Rattle.std.proofs.Common.{refl}
use Rattle.std.specs.Fmt.{digits}
use Rattle.semantics.specs.Lts.{sum, some, every, into, active}
use Rattle.semantics.specs.Equations.{nth, truth, true_at, rounds, solution, cost}
use Rattle.semantics.specs.Plain.{among, decided, turned, waits, settled, standing, costs, well_formed, all_well_formed, equation_of, book_of, proper, fits, mark_of, marked, share, lines, page, answer_to, after}
use Rattle.semantics.specs.Preorder.{follows, matches, matched, related}
use Rattle.semantics.specs.MarkedRuns.{MarkedRuns}
use Rattle.semantics.specs.Comparisons.{Comparisons}
use Rattle.semantics.proofs.Played.{takes?, none?, allowed?, allowed_all?, had, given, happens, never}

pub marked_runs : MarkedRuns
unfolding sum some every into nth truth true_at cost among decided turned waits settled standing costs well_formed all_well_formed equation_of book_of proper fits mark_of marked share lines page answer_to after digits follows matches matched related takes? none? allowed? allowed_all? had given
marked_runs = record {
  job = happens _ _ _ refl refl;
  job_in_two = happens _ _ _ refl refl;
  two_places = happens _ _ _ refl refl;
  table_greatest = happens _ _ _ refl refl;
  table_least = happens _ _ _ refl refl;
  modalities = happens _ _ _ refl refl;
  and_greatest = happens _ _ _ refl refl;
  and_least = happens _ _ _ refl refl;
  divergent_greatest = happens _ _ _ refl refl;
  divergent_least = happens _ _ _ refl refl;
  defined_greatest = happens _ _ _ refl refl;
  defined_least = happens _ _ _ refl refl;
  loop_greatest = happens _ _ _ refl refl;
  loop_least = happens _ _ _ refl refl;
  loop_pinned = happens _ _ _ refl refl;
  loop_pinned_least = happens _ _ _ refl refl;
  twice_pinned = happens _ _ _ refl refl;
  pinning = happens _ _ _ refl refl;
  least_open = happens _ _ _ refl refl;
  not_early = never _ _ _ refl;
  not_too_many = never _ _ _ refl;
  not_waiting = never _ _ _ refl;
  not_again = never _ _ _ refl;
  not_outside = never _ _ _ refl;
  not_a_variable = never _ _ _ refl;
  only_runs = never _ _ _ refl;
  share_of_3 = happens _ _ _ refl refl;
  share_of_16 = happens _ _ _ refl refl;
  share_of_none = happens _ _ _ refl refl;
  no_book_yet = happens _ _ _ refl refl;
  refusals = happens _ _ _ refl refl;
  at_least_one = happens _ _ _ refl refl;
  at_most_1024 = happens _ _ _ refl refl;
  not_1025 = happens _ _ _ refl refl;
  pairs_8192 = happens _ _ _ refl refl;
  not_8193 = happens _ _ _ refl refl;
  form_before_pairs = happens _ _ _ refl refl;
  names_there = happens _ _ _ refl refl;
  names_wrong = happens _ _ _ refl refl;
  divergent_relates = refl;
  defined_does_not = refl;
}

pub comparisons : Comparisons
unfolding some every nth truth true_at rounds solution follows matches matched related active
comparisons = record {
  divergent_moves = refl;
  divergent_diverges = refl;
  defined_moves = refl;
  defined_diverges = refl;
  defined_same = refl;
  not_followed = refl;
  followed_by_two = refl;
  two_followed = refl;
  late_early = refl;
  early_late = refl;
  open_late = refl;
  late_open = refl;
  open_early = refl;
  loop = refl;
  loop_three = refl;
  loop_none = refl;
  loop_divergent = refl;
}
