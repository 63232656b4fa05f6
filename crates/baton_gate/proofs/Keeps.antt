-- Each kind of atomic step keeps the rule.
use Rattle.std.proofs.Common.{◌≡◌, ◌≢◌, ℕ, ◌+◌, ◌<◌, ◌≤◌, Bool, true, false, true≢false, List, [], ◌∷◌}
use Rattle.std.proofs.Common.{◌++◌, length, set, All, Some, None, IsSome, sym, refl, ap, ◌∙◌, subst, inl, inr, ⊎_elim, cond}
use Rattle.std.proofs.Common.{if◌then◌else◌, ◌==◌, arith, length-append, eq-eqb, ne_eqb}
use Rattle.std.proofs.lemmas.List.Elements.{All-nil, All-cons, All-head, All-tail, All-append, All-weaker}
use Rattle.std.proofs.lemmas.List.Sums.{sum_by_push}
use Rattle.std.proofs.lemmas.Option.{same_Some}
use mathlib.Core.Option.{some}
use lib.ListN.{get_elem?}
use Rattle.crossbeam_queue.proofs.Lists.{set_else}
use Rattle.crossbeam_queue.specs.Fifo.{Pushes, Pops, Forks, Merges}
use Rattle.baton_gate.specs.declared.views.Ended.{Ended}
use Rattle.baton_gate.specs.declared.views.View.{View}
use Rattle.baton_gate.specs.declared.rule.Baton.{Baton}
use Rattle.baton_gate.specs.Logs.{Ahead, Adds}
use Rattle.baton_gate.specs.Course.{Course, unopened, opened, spent_view, taken, given, one_more, newcomer, ended_of, joined, holders, IsOf}
use Rattle.baton_gate.specs.Course.{Fits, IsAt, Runs, InCourse, IsTaken}
use Rattle.baton_gate.proofs.LogLemmas.{goes_nowhere, goes_weaker, goes_on, goes_same, goes_from}
use Rattle.baton_gate.proofs.ViewLists.{sum_at_set, sum_at_le, at_more, all_set, at_one}

abbrev one : Bool → ℕ
one b = cond b 1 0

module _ {I F : Type 0} where
  -- the holders after a change of one view
  pub holders_set : (views : List (View I F)) (port : ℕ) (v w : View I F) → get_elem? views port ≡ some v → holders (set views port w) + one v.holds ≡ holders views + one w.holds
  holders_set views port v w at = sum_at_set (λ (u : View I F). one u.holds) views port v w at

  -- who holds is counted
  pub holder_counts : (views : List (View I F)) (port : ℕ) (v : View I F) → get_elem? views port ≡ some v → v.holds ≡ true → 1 ≤ holders views
  holder_counts views port v at holds = let e : one v.holds ≡ 1 = ap one holds in let l = sum_at_le (λ (u : View I F). one u.holds) views port v at in omega arith

module _ {S I F : Type 0} (log_of : S → List I) (party_of : I → ℕ) (frame_of : S → F) (caught_up : S → Type 0) where
  abbrev Rule : List (Baton S) → List (View I F) → Type 0
  Rule = InCourse log_of party_of frame_of caught_up

  abbrev Live : View I F → Type 0
  Live v = (v.spent ≡ false) × IsSome v.frame

  -- a live pass knows that the value runs a course
  running : (items : List (Baton S)) (views : List (View I F)) (port : ℕ) (v : View I F) → Rule items views → get_elem? views port ≡ some v → Live v
      → (c : Course I F) × Runs log_of party_of frame_of caught_up c items views
  running items views port v (inl h) at live =
      let e : get_elem? (unopened ∷ []) port ≡ some v = ap (λ l. get_elem? l port) (sym h.1) ∙ at in
      let is : unopened ≡ v = (at_one unopened v port e).1 in
      let some' : IsSome v.frame = live.1 in
      absurd (true≢false (sym (subst (λ (u : View I F). IsSome u.frame) (sym is) some')))
  running items views port v (inr h) at live = h

  pub begins : Rule [] (unopened ∷ [])
  begins = inl (refl, refl)

  -- the opening push
  pub opens : (n port : ℕ) (x : Baton S) → caught_up x.state → 1 ≤ x.parties
      → Pushes Rule n port unopened x (λ w. w ≡ opened x.parties (frame_of x.state) (log_of x.state))
  opens n port x ready some_party items views room (inr h) at = let f = h.1.fits port unopened at refl in let none : None ≡ Some h.0.frame = f.frame in absurd (cc)
  opens n port x ready some_party items views room (inl h) at =
      let w : View I F = opened x.parties (frame_of x.state) (log_of x.state) in
      let c : Course I F = record { log = log_of x.state; opening = log_of x.state; frame = frame_of x.state; parties = x.parties; made = 1; seat = λ q. 0 } in
      let port_is : port ≡ 0 = (at_one unopened unopened port (ap (λ l. get_elem? l port) (sym h.1) ∙ at)).0 in
      let views_are : set views port w ≡ w ∷ [] = ap (λ (p : List (View I F) × ℕ). set p.0 p.1 w) (λ i. (h.1 i, port_is i)) in
      let items_are : items ++ x ∷ [] ≡ x ∷ [] = ap (λ l. l ++ x ∷ []) h.0 in
      let runs : Runs log_of party_of frame_of caught_up c (x ∷ []) (w ∷ []) = record {
        place = refl;
        queued = All-cons (λ (y : Baton S). IsAt log_of party_of frame_of caught_up c y) x [] (record { log = refl; frame = refl; ready = ready; count = refl }) (All-nil (λ (y : Baton S). IsAt log_of party_of frame_of caught_up c y));
        within = goes_nowhere (λ i. party_of i < 1) (log_of x.state);
        few = some_party;
        fits = λ j u e live. let one_is = at_one w u j e in
            let fit : Fits log_of party_of frame_of caught_up c 0 w = record {
              frame = refl;
              parties = refl;
              opening = refl;
              made = λ _. refl;
              holder = λ _. refl;
              own = record { seated = refl; known = omega arith; ahead = goes_nowhere (λ i. party_of i ≢ 0) (log_of x.state) };
              ended = All-nil (λ (e : Ended I). IsOf log_of party_of frame_of caught_up c 0 e.party e.seen × (e.party ≢ 0));
            } in
            subst (λ (y : ℕ × View I F). Fits log_of party_of frame_of caught_up c y.0 y.1) (λ i. (sym one_is.0 i, one_is.1 i)) fit;
      } in
      (w, inr (c, subst (λ (y : List (Baton S) × List (View I F)). Runs log_of party_of frame_of caught_up c y.0 y.1) (λ i. (sym items_are i, sym views_are i)) runs), refl)

  -- a pop
  pub takes : (port : ℕ) (v : View I F) → Live v → v.holds ≡ false
      → Pops Rule port v (λ x w. (w ≡ taken v (log_of x.state)) × IsTaken log_of party_of frame_of caught_up v x.state)
  takes port v live free x items views rule at =
      let r = running (x ∷ items) views port v rule at live in
      let c : Course I F = r.0 in
      let runs : Runs log_of party_of frame_of caught_up c (x ∷ items) views = r.1 in
      let fit = runs.fits port v at live.0 in
      let here : IsAt log_of party_of frame_of caught_up c x = All-head (λ (y : Baton S). IsAt log_of party_of frame_of caught_up c y) x items runs.queued in
      let w : View I F = taken v (log_of x.state) in
      let free' : one v.holds ≡ 0 = ap one free in
      let count = holders_set views port v w at in
      let mine : Fits log_of party_of frame_of caught_up c port w = record {
        frame = fit.frame;
        parties = fit.parties;
        opening = fit.opening;
        made = fit.made;
        holder = λ _. here.log;
        own = record { seated = fit.own.seated; known = fit.own.known; ahead = goes_same (λ i. party_of i ≢ v.party) (log_of x.state) (log_of x.state) c.log (goes_nowhere (λ i. party_of i ≢ v.party) (log_of x.state)) here.log };
        ended = fit.ended;
      } in
      let new_runs : Runs log_of party_of frame_of caught_up c items (set views port w) = record {
        place = (let p = runs.place in omega arith);
        queued = All-tail (λ (y : Baton S). IsAt log_of party_of frame_of caught_up c y) x items runs.queued;
        within = runs.within;
        few = runs.few;
        fits = all_set (λ j u. u.spent ≡ false → Fits log_of party_of frame_of caught_up c j u) views port w (λ _. mine) (λ j u _ e. runs.fits j u e);
      } in
      let told : IsTaken log_of party_of frame_of caught_up v x.state = record {
        ready = here.ready;
        frame = fit.frame ∙ ap Some (sym here.frame);
        own = goes_same (λ i. party_of i ≢ v.party) v.seen c.log (log_of x.state) fit.own.ahead (sym here.log);
        ended = All-weaker (λ (e : Ended I). IsOf log_of party_of frame_of caught_up c port e.party e.seen × (e.party ≢ v.party)) (λ (e : Ended I). Ahead party_of (log_of x.state) e.party e.seen)
            (λ e t. goes_same (λ i. party_of i ≢ e.party) e.seen c.log (log_of x.state) t.0.ahead (sym here.log)) v.ended fit.ended;
        within = (let few : c.made ≤ v.parties = subst (λ (k : ℕ). c.made ≤ k) (sym fit.parties) runs.few in
            let on = goes_weaker (λ i. party_of i < c.made) (λ i. party_of i < v.parties) c.opening c.log runs.within (λ i l. omega arith) in
            let on' = goes_same (λ i. party_of i < v.parties) c.opening c.log (log_of x.state) on (sym here.log) in
            goes_from (λ i. party_of i < v.parties) c.opening v.opening (log_of x.state) on' (sym fit.opening));
      } in
      (w, inr (c, new_runs), (refl, told))

  -- the log of a party's pass after another party added to it
  still_of : (c : Course I F) (log : List I) (port party p : ℕ) (seen : List I) → IsOf log_of party_of frame_of caught_up c port party seen → Adds party_of log p c.log → party ≢ p
      → IsOf log_of party_of frame_of caught_up (record c { log = log }) port party seen
  still_of c log port party p seen of adds apart = record {
    seated = of.seated;
    known = of.known;
    ahead = goes_on (λ i. party_of i ≢ party) (λ i. party_of i ≡ p) (λ i. party_of i ≢ party) seen c.log log of.ahead adds (λ i n. n) (λ i e n. apart (sym n ∙ e));
  }

  -- two parties that different passes answer for are different
  apart_by_seat : (c : Course I F) (j port q p : ℕ) → c.seat q ≡ j → c.seat p ≡ port → j ≢ port → q ≢ p
  apart_by_seat c j port q p sq sp ne e = ne (sym sq ∙ ap c.seat e ∙ sp)

  no_items : (items : List (Baton S)) → length items ≡ 0 → items ≡ []
  no_items [] e = refl
  no_items (x ∷ xs) e = absurd (omega arith)

  -- a later push
  pub gives : (n port : ℕ) (v : View I F) (x : Baton S) → Live v → v.holds ≡ true → x.parties ≡ v.parties → caught_up x.state → v.frame ≡ Some (frame_of x.state) → Adds party_of (log_of x.state) v.party v.seen
      → Pushes Rule n port v x (λ w. w ≡ given v (log_of x.state))
  gives n port v x live holds count_is ready frame adds items views room rule at =
      let r = running items views port v rule at live in
      let c : Course I F = r.0 in
      let runs : Runs log_of party_of frame_of caught_up c items views = r.1 in
      let fit = runs.fits port v at live.0 in
      let log : List I = log_of x.state in
      let w : View I F = given v log in
      let d : Course I F = record c { log = log } in
      let holds' : one v.holds ≡ 1 = ap one holds in
      let count = holders_set views port v w at in
      let some' : 1 ≤ holders views = holder_counts views port v at holds in
      let place = runs.place in
      let none : items ≡ [] = no_items items (omega arith) in
      let adds' : Adds party_of log v.party c.log = goes_from (λ i. party_of i ≡ v.party) v.seen c.log log adds (fit.holder holds) in
      let mine : Fits log_of party_of frame_of caught_up d port w = record {
        frame = fit.frame;
        parties = fit.parties;
        opening = fit.opening;
        made = fit.made;
        holder = λ _. refl;
        own = record { seated = fit.own.seated; known = fit.own.known; ahead = goes_nowhere (λ i. party_of i ≢ v.party) log };
        ended = All-weaker (λ (e : Ended I). IsOf log_of party_of frame_of caught_up c port e.party e.seen × (e.party ≢ v.party)) (λ (e : Ended I). IsOf log_of party_of frame_of caught_up d port e.party e.seen × (e.party ≢ v.party))
            (λ e t. (still_of c log port e.party v.party e.seen t.0 adds' t.1, t.1)) v.ended fit.ended;
      } in
      let other : (j : ℕ) (u : View I F) → j ≢ port → get_elem? views j ≡ some u → u.spent ≡ false → Fits log_of party_of frame_of caught_up d j u = λ j u ne e alive. let f = runs.fits j u e alive in record {
        frame = f.frame;
        parties = f.parties;
        opening = f.opening;
        made = f.made;
        holder = λ (h : u.holds ≡ true). (let two : 1 ≤ holders (set views port w) = holder_counts (set views port w) j u (set_else views port j w ne ∙ e) h in absurd (omega arith));
        own = still_of c log j u.party v.party u.seen f.own adds' (apart_by_seat c j port u.party v.party f.own.seated fit.own.seated ne);
        ended = All-weaker (λ (e : Ended I). IsOf log_of party_of frame_of caught_up c j e.party e.seen × (e.party ≢ u.party)) (λ (e : Ended I). IsOf log_of party_of frame_of caught_up d j e.party e.seen × (e.party ≢ u.party))
            (λ e t. (still_of c log j e.party v.party e.seen t.0 adds' (apart_by_seat c j port e.party v.party t.0.seated fit.own.seated ne), t.1)) u.ended f.ended;
      } in
      let At : Baton S → Type 0 = λ y. IsAt log_of party_of frame_of caught_up d y in
      let frame' : frame_of x.state ≡ c.frame = same_Some (frame_of x.state) c.frame (sym frame ∙ fit.frame) in
      let known = fit.own.known in
      let new_runs : Runs log_of party_of frame_of caught_up d (items ++ x ∷ []) (set views port w) = record {
        place = (let l = length-append items (x ∷ []) in let l' : length (x ∷ []) ≡ 1 = refl in omega arith);
        queued = subst (λ (l : List (Baton S)). All At (l ++ x ∷ [])) (sym none) (All-cons At x [] (record { log = refl; frame = frame'; ready = ready; count = count_is ∙ fit.parties }) (All-nil At));
        within = goes_on (λ i. party_of i < c.made) (λ i. party_of i ≡ v.party) (λ i. party_of i < c.made) c.opening c.log log runs.within adds' (λ i l. l) (λ i e. omega arith);
        few = runs.few;
        fits = all_set (λ j u. u.spent ≡ false → Fits log_of party_of frame_of caught_up d j u) views port w (λ _. mine) other;
      } in
      (w, inr (d, new_runs), refl)

  -- after one more pass was made, a party is still of its pass
  more_of : (c : Course I F) (port party at : ℕ) (seen : List I) → IsOf log_of party_of frame_of caught_up c port party seen
      → IsOf log_of party_of frame_of caught_up (record c { made = c.made + 1; seat = λ q. if q == c.made then at else c.seat q }) port party seen
  more_of c port party at seen of =
      let less = of.known in
      let ne : party ≢ c.made = λ e. absurd (omega arith) in
      record {
        seated = subst (λ (b : Bool). (if b then at else c.seat party) ≡ port) (sym (ne_eqb party c.made ne)) of.seated;
        known = omega arith;
        ahead = of.ahead;
      }

  -- the making of one more pass
  pub makes : (port : ℕ) (v : View I F) → Live v → v.party ≡ 0 → v.made < v.parties → Forks Rule port v (one_more v) (newcomer v)
  makes port v live first room items views rule at =
      let r = running items views port v rule at live in
      let c : Course I F = r.0 in
      let runs : Runs log_of party_of frame_of caught_up c items views = r.1 in
      let fit = runs.fits port v at live.0 in
      let left : View I F = one_more v in
      let right : View I F = newcomer v in
      let vs : List (View I F) = set views port left in
      let n : ℕ = length vs in
      let d : Course I F = record c { made = c.made + 1; seat = λ q. if q == c.made then n else c.seat q } in
      let made : v.made ≡ c.made = fit.made first in
      let known = fit.own.known in
      let mine : Fits log_of party_of frame_of caught_up d port left = record {
        frame = fit.frame;
        parties = fit.parties;
        opening = fit.opening;
        made = λ _. ap (λ k. k + 1) made;
        holder = fit.holder;
        own = more_of c port v.party n v.seen fit.own;
        ended = All-weaker (λ (e : Ended I). IsOf log_of party_of frame_of caught_up c port e.party e.seen × (e.party ≢ v.party)) (λ (e : Ended I). IsOf log_of party_of frame_of caught_up d port e.party e.seen × (e.party ≢ v.party))
            (λ e t. (more_of c port e.party n e.seen t.0, t.1)) v.ended fit.ended;
      } in
      let other : (j : ℕ) (u : View I F) → j ≢ port → get_elem? views j ≡ some u → u.spent ≡ false → Fits log_of party_of frame_of caught_up d j u = λ j u ne e alive. let f = runs.fits j u e alive in record {
        frame = f.frame;
        parties = f.parties;
        opening = f.opening;
        made = λ (z : u.party ≡ 0). absurd (apart_by_seat c j port u.party v.party f.own.seated fit.own.seated ne (z ∙ sym first));
        holder = f.holder;
        own = more_of c j u.party n u.seen f.own;
        ended = All-weaker (λ (e : Ended I). IsOf log_of party_of frame_of caught_up c j e.party e.seen × (e.party ≢ u.party)) (λ (e : Ended I). IsOf log_of party_of frame_of caught_up d j e.party e.seen × (e.party ≢ u.party))
            (λ e t. (more_of c j e.party n e.seen t.0, t.1)) u.ended f.ended;
      } in
      let ahead : Ahead party_of c.log v.made v.opening =
      (let a = goes_weaker (λ i. party_of i < c.made) (λ i. party_of i ≢ v.made) c.opening c.log runs.within (λ i l e. absurd (omega arith)) in
      goes_from (λ i. party_of i ≢ v.made) c.opening v.opening c.log a (sym fit.opening)) in
      let new_fit : Fits log_of party_of frame_of caught_up d n right = record {
        frame = fit.frame;
        parties = fit.parties;
        opening = fit.opening;
        made = λ (z : v.made ≡ 0). absurd (omega arith);
        holder = λ h. absurd (true≢false (sym h));
        own = record {
          seated = subst (λ (b : Bool). (if b then n else c.seat v.made) ≡ n) (sym (eq-eqb v.made c.made made)) refl;
          known = omega arith;
          ahead = ahead;
        };
        ended = All-nil (λ (e : Ended I). IsOf log_of party_of frame_of caught_up d n e.party e.seen × (e.party ≢ v.made));
      } in
      let Fit : ℕ → View I F → Type 0 = λ j u. u.spent ≡ false → Fits log_of party_of frame_of caught_up d j u in
      let old : (j : ℕ) (u : View I F) → get_elem? vs j ≡ some u → Fit j u = all_set Fit views port left (λ _. mine) other in
      let count = holders_set views port v left at in
      let more = sum_by_push (λ (u : View I F). one u.holds) vs right in
      let place = runs.place in
      let parties = fit.parties in
      inr (
        d,
        record {
          place = omega arith;
          queued = All-weaker (λ (y : Baton S). IsAt log_of party_of frame_of caught_up c y) (λ (y : Baton S). IsAt log_of party_of frame_of caught_up d y) (λ y a. record { log = a.log; frame = a.frame; ready = a.ready; count = a.count }) items runs.queued;
          within = goes_weaker (λ i. party_of i < c.made) (λ i. party_of i < c.made + 1) c.opening c.log runs.within (λ i l. omega arith);
          few = omega arith;
          fits = λ j u e. ⊎_elim (λ x. old j u x) (λ (x : (j ≡ n) × (right ≡ u)). subst (λ (y : ℕ × View I F). Fit y.0 y.1) (λ i. (sym x.0 i, x.1 i)) (λ _. new_fit)) (at_more vs right u j e);
        },
      )

  -- after the pass at `other` was joined into the one at `port`, that one answers for its parties
  abbrev moved : Course I F → ℕ → ℕ → Course I F
  moved c port other = record c { seat = λ q. if c.seat q == other then port else c.seat q }

  stays_of : (c : Course I F) (port other j party : ℕ) (seen : List I) → j ≢ other → IsOf log_of party_of frame_of caught_up c j party seen
      → IsOf log_of party_of frame_of caught_up (moved c port other) j party seen
  stays_of c port other j party seen ne of = record {
    seated = subst (λ (b : Bool). (if b then port else c.seat party) ≡ j) (sym (ne_eqb (c.seat party) other (λ e. ne (sym of.seated ∙ e)))) of.seated;
    known = of.known;
    ahead = of.ahead;
  }

  moves_of : (c : Course I F) (port other party : ℕ) (seen : List I) → IsOf log_of party_of frame_of caught_up c other party seen
      → IsOf log_of party_of frame_of caught_up (moved c port other) port party seen
  moves_of c port other party seen of = record {
    seated = subst (λ (b : Bool). (if b then port else c.seat party) ≡ port) (sym (eq-eqb (c.seat party) other of.seated)) refl;
    known = of.known;
    ahead = of.ahead;
  }

  -- the join of a pass into another
  pub joins : (port : ℕ) (v : View I F) (other : ℕ) (w : View I F) → Live v → Live w → v.holds ≡ false → w.holds ≡ false → Merges Rule port v other w (joined v w) spent_view
  joins port v other w live live' free free' items views rule at ne at' =
      let r = running items views port v rule at live in
      let c : Course I F = r.0 in
      let runs : Runs log_of party_of frame_of caught_up c items views = r.1 in
      let both : View I F = joined v w in
      let vs : List (View I F) = set views port both in
      let there : get_elem? views other ≡ some w = sym (set_else views port other both ne) ∙ at' in
      let fit = runs.fits port v at live.0 in
      let fit' = runs.fits other w there live'.0 in
      let d : Course I F = moved c port other in
      let ne' : port ≢ other = λ e. ne (sym e) in
      let Old : ℕ → View I F → Ended I → Type 0 = λ j u e. IsOf log_of party_of frame_of caught_up c j e.party e.seen × (e.party ≢ u.party) in
      let New : ℕ → View I F → Ended I → Type 0 = λ j u e. IsOf log_of party_of frame_of caught_up d j e.party e.seen × (e.party ≢ u.party) in
      let theirs : Ended I → Type 0 = λ e. IsOf log_of party_of frame_of caught_up c other e.party e.seen in
      let passed : (e : Ended I) → theirs e → New port v e = λ e of. (moves_of c port other e.party e.seen of, apart_by_seat c other port e.party v.party of.seated fit.own.seated ne) in
      let they : All (New port v) (ended_of w) = All-weaker theirs (New port v) passed (ended_of w)
      (All-cons theirs (record { party = w.party; seen = w.seen }) w.ended fit'.own (All-weaker (Old other w) theirs (λ e t. t.0) w.ended fit'.ended)) in
      let mine : Fits log_of party_of frame_of caught_up d port both = record {
        frame = fit.frame;
        parties = fit.parties;
        opening = fit.opening;
        made = fit.made;
        holder = fit.holder;
        own = stays_of c port other port v.party v.seen ne' fit.own;
        ended = All-append (New port v) v.ended (ended_of w) (All-weaker (Old port v) (New port v) (λ e t. (stays_of c port other port e.party e.seen ne' t.0, t.1)) v.ended fit.ended) they;
      } in
      let Fit : ℕ → View I F → Type 0 = λ j u. j ≢ other → u.spent ≡ false → Fits log_of party_of frame_of caught_up d j u in
      let rest : (j : ℕ) (u : View I F) → j ≢ port → get_elem? views j ≡ some u → Fit j u = λ j u _ e far alive. let f = runs.fits j u e alive in record {
        frame = f.frame;
        parties = f.parties;
        opening = f.opening;
        made = f.made;
        holder = f.holder;
        own = stays_of c port other j u.party u.seen far f.own;
        ended = All-weaker (Old j u) (New j u) (λ e t. (stays_of c port other j e.party e.seen far t.0, t.1)) u.ended f.ended;
      } in
      let now : (j : ℕ) (u : View I F) → get_elem? vs j ≡ some u → Fit j u = all_set Fit views port both (λ _ _. mine) rest in
      let count = holders_set views port v both at in
      let count' = holders_set vs other w spent_view at' in
      let none : one v.holds ≡ 0 = ap one free in
      let none' : one w.holds ≡ 0 = ap one free' in
      let place = runs.place in
      inr (
        d,
        record {
          place = omega arith;
          queued = All-weaker (λ (y : Baton S). IsAt log_of party_of frame_of caught_up c y) (λ (y : Baton S). IsAt log_of party_of frame_of caught_up d y) (λ y a. record { log = a.log; frame = a.frame; ready = a.ready; count = a.count }) items runs.queued;
          within = runs.within;
          few = runs.few;
          fits = all_set (λ j u. u.spent ≡ false → Fits log_of party_of frame_of caught_up d j u) vs other spent_view (λ alive. absurd (true≢false alive)) (λ j u far e alive. now j u e far alive);
        },
      )
