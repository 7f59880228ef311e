-- Each step of a call keeps the rule.
use Rattle.std.proofs.Common.{◌≡◌, ◌≢◌, ℕ, ◌+◌, ◌<◌, ◌%◌, ◌^◌, List, [], ◌∷◌, ◌++◌, length, set, Option, Some, true, true≢false, eqb, refl, sym, ap, ◌∙◌, subst, arith, length-append, append-nil, append_assoc}
use Rattle.std.specs.Prelude.{slice_set, slice_index}
use mathlib.Core.Option.{some, none, some-ne-none, some-injective}
use mathlib.Core.Option as maybe
use lib.ListN.{get_elem?}
use prog.Atomic.{either}
use Rattle.atomic_table.specs.Table.{State, Me, Act, keeps, takes as fetches, gives, Valid, homes_after, carried_after, Allows}
use Rattle.atomic_table.proofs.Lists.{set_again, exchanged}
use Rattle.journal_lock.specs.declared.table.View.{View}
use Rattle.journal_lock.specs.Rule.{HasAll, OldsHaveAll, with_turn, without_turn, with_seen, Fits, Kept, IsOf, takes, counts, frees}
use Rattle.journal_lock.proofs.Lists.{here_set, each_set, below_more, has_more, olds_more, some_same}

module _ {V E F G : Type 0} (entries : V → List E) (fixed : V → G) (of : F → G) (number : E → ℕ) (f : F) (seats : ℕ) where
  abbrev K : State (Option V) (View E F) → Type 0
  K = Kept entries fixed of number f seats

  abbrev Fit : List E → ℕ → ℕ → ℕ → (ℕ → ℕ) → ℕ → View E F → Type 0
  Fit = Fits number f seats

  -- another seat, when the turn is taken that was free
  pub rests : (log : List E) (turn made at : ℕ) (seat_with : ℕ → ℕ) (j : ℕ) (u : View E F) → Fit log 0 made at seat_with j u → Fit log turn made at seat_with j u
  rests log turn made at seat_with j u h = record {
    of_pass = h.of_pass;
    of_turn = λ e. let no = (h.of_turn e).0 in absurd (omega arith);
    of_maker = h.of_maker;
    of_closer = h.of_closer;
    olds_have = h.olds_have;
    olds_of = h.olds_of;
    olds_differ = h.olds_differ;
  }

  -- no other seat has the turn
  alone : (log : List E) (made at : ℕ) (seat_with : ℕ → ℕ) (id : ℕ) (v : View E F) (j : ℕ) (u : View E F) → seat_with v.number ≡ id → j ≢ id → Fit log (v.number + 1) made at seat_with j u → u.holds ≡ true → ⊥
  alone log made at seat_with id v j u here apart h t =
      let turn = (h.of_turn t).0 in
      let same : u.number ≡ v.number = omega arith in
      apart (sym ((h.of_pass (h.of_turn t).2).0) ∙ ap seat_with same ∙ here)

  pub takes_turn : (id : ℕ) (v : View E F) → v.live ≡ true
      → Allows K 1 id (v, []) 0 (λ n. either (eqb n 0) (v.number + 1) n) (takes entries fixed of number (v, []))
  takes_turn id v live s h long mine fits =
      let P : List ℕ → Type 0 = λ ws. (w : View E F) × (a : Act (Option V)) × Valid s.homes [] a × K (record { words = slice_set ws 0 (either (eqb (slice_index ws 0) 0) (v.number + 1) (slice_index ws 0)); homes = homes_after s.homes [] a; views = set s.views id w }) × takes entries fixed of number (v, []) (slice_index ws 0) (w, carried_after [] a) in
      subst P (sym h.words_are) (exchanged h.turn 0 (v.number + 1) Goes hit miss)
    where
      Goes : ℕ → Type 0
      Goes n = (w : View E F) × (a : Act (Option V)) × Valid s.homes [] a × K (record { words = n ∷ length h.log ∷ []; homes = homes_after s.homes [] a; views = set s.views id w }) × takes entries fixed of number (v, []) h.turn (w, carried_after [] a)

      me : Fit h.log h.turn h.made h.makes_at h.seat_with id v
      me = h.each id v mine

      miss : h.turn ≢ 0 → Goes h.turn
      miss ne = (
        v,
        keeps,
        tt,
        subst (λ (vs : List (View E F)). K (record { words = h.turn ∷ length h.log ∷ []; homes = s.homes; views = vs })) (sym (set_again s.views id v mine))
            (record { log = h.log; turn = h.turn; made = h.made; makes_at = h.makes_at; seat_with = h.seat_with; words_are = refl; one_slot = h.one_slot; at_home = h.at_home; is_named = h.is_named; few = h.few; numbered = h.numbered; each = h.each }),
        ((λ e. absurd (ne e)), (λ _. refl)),
      )

      hit : h.turn ≡ 0 → Goes (v.number + 1)
      hit e =
          let home = h.at_home e in
          let p = me.of_pass live in
          let all = p.3 in
          let more = all.0 in
          let w = with_turn v more in (
            w,
            fetches 0 (Some home.0),
            ap (λ hs. get_elem? hs 0) home.1,
            record {
              log = h.log;
              turn = v.number + 1;
              made = h.made;
              makes_at = h.makes_at;
              seat_with = h.seat_with;
              words_are = refl;
              one_slot = ap (λ hs. length (set hs 0 none)) home.1;
              at_home = λ z. absurd (omega arith);
              is_named = λ _. (v.number, w, p.1, subst (λ (i : ℕ). get_elem? (set s.views id w) i ≡ some w) (sym p.0) (here_set s.views id v w mine), refl);
              few = h.few;
              numbered = h.numbered;
              each = each_set (Fit h.log (v.number + 1) h.made h.makes_at h.seat_with) s.views id w
                  (λ j u apart there. rests h.log (v.number + 1) h.made h.makes_at h.seat_with j u (subst (λ (t : ℕ). Fit h.log t h.made h.makes_at h.seat_with j u) e (h.each j u there)))
                  (record {
                    of_pass = λ _. (p.0, p.1, p.2, ([], all.1 ∙ sym (append-nil (v.seen ++ more)), tt));
                    of_turn = λ _. (refl, sym all.1, live);
                    of_maker = λ m. absurd (true≢false (sym live ∙ (me.of_maker m).4));
                    of_closer = λ c. absurd (true≢false (sym live ∙ (me.of_closer c).2));
                    olds_have = me.olds_have;
                    olds_of = me.olds_of;
                    olds_differ = me.olds_differ;
                  });
            },
            ((λ _. (home.0, more, refl, all.2, home.2 ∙ all.1, (f, p.2, home.3))), (λ ne. absurd (ne e))),
          )

  pub adds_entry : (id : ℕ) (v : View E F) (c : List (ℕ × Option V)) (e : E) → v.live ≡ true → v.holds ≡ true → v.olds ≡ [] → length v.seen < 2 ^ 62 → number e ≡ v.number
      → Allows K 1 id (v, c) 1 (λ n. (n + 1) % 2 ^ 64) (counts (e ∷ []) (v, c))
  adds_entry id v c e live turn single room is s h long mine fits =
      let P : List ℕ → Type 0 = λ ws. (w : View E F) × (a : Act (Option V)) × Valid s.homes c a × K (record { words = slice_set ws 1 ((slice_index ws 1 + 1) % 2 ^ 64); homes = homes_after s.homes c a; views = set s.views id w }) × counts (e ∷ []) (v, c) (slice_index ws 1) (w, carried_after c a) in
      subst P (sym h.words_are) (
        w,
        keeps,
        tt,
        record {
          log = log';
          turn = v.number + 1;
          made = h.made;
          makes_at = h.makes_at;
          seat_with = h.seat_with;
          words_are = λ i. is_turn i ∷ counted i ∷ [];
          one_slot = h.one_slot;
          at_home = λ z. absurd (omega arith);
          is_named = λ _. (v.number, w, p.1, subst (λ (i : ℕ). get_elem? (set s.views id w) i ≡ some w) (sym p.0) (here_set s.views id v w mine), turn);
          few = h.few;
          numbered = below_more number h.made h.log e h.numbered (subst (λ (n : ℕ). n < h.made) (sym is) p.1);
          each = each_set (Fit log' (v.number + 1) h.made h.makes_at h.seat_with) s.views id w
              (λ j u apart there. beside j u apart (subst (λ (t : ℕ). Fit h.log t h.made h.makes_at h.seat_with j u) is_turn (h.each j u there)))
              (record {
                of_pass = λ _. (p.0, p.1, p.2, ([], sym all ∙ sym (append-nil (v.seen ++ e ∷ [])), tt));
                of_turn = λ _. (refl, all, live);
                of_maker = λ m. absurd (true≢false (sym live ∙ (me.of_maker m).4));
                of_closer = λ c. absurd (true≢false (sym live ∙ (me.of_closer c).2));
                olds_have = subst (λ os. OldsHaveAll number os log') (sym single) tt;
                olds_of = me.olds_of;
                olds_differ = me.olds_differ;
              });
        },
        (ap length (sym whole), refl),
      )
    where
      me : Fit h.log h.turn h.made h.makes_at h.seat_with id v
      me = h.each id v mine

      is_turn : h.turn ≡ v.number + 1
      is_turn = (me.of_turn turn).0

      whole : v.seen ≡ h.log
      whole = (me.of_turn turn).1

      log' : List E
      log' = h.log ++ e ∷ []

      w : View E F
      w = with_seen v (v.seen ++ e ∷ [])

      p : (h.seat_with v.number ≡ id) × (v.number < h.made) × (v.fixed ≡ Some f) × HasAll number v.number v.seen h.log
      p = me.of_pass live

      all : v.seen ++ e ∷ [] ≡ log'
      all = ap (λ l. l ++ e ∷ []) whole

      counted : (length h.log + 1) % 2 ^ 64 ≡ length log'
      counted = let l = ap length whole in omega (arith, length-append h.log (e ∷ []))

      -- another seat
      beside : (j : ℕ) (u : View E F) → j ≢ id → Fit h.log (v.number + 1) h.made h.makes_at h.seat_with j u → Fit log' (v.number + 1) h.made h.makes_at h.seat_with j u
      beside j u apart o = record {
        of_pass = λ l. let q = o.of_pass l in (q.0, q.1, q.2, has_more number u.number u.seen h.log e q.3 (λ same. apart (sym q.0 ∙ ap h.seat_with (sym same ∙ is) ∙ p.0)));
        of_turn = λ t. absurd (alone h.log h.made h.makes_at h.seat_with id v j u p.0 apart o t);
        of_maker = o.of_maker;
        of_closer = λ c. let q = o.of_closer c in (q.0, q.1, q.2, (q.3.0 ++ e ∷ [], ap (λ l. l ++ e ∷ []) q.3.1 ∙ append_assoc u.seen q.3.0 (e ∷ [])));
        olds_have = olds_more number h.seat_with h.made j v.number u.olds h.log e is (λ same. apart (sym same ∙ p.0)) o.olds_of o.olds_have;
        olds_of = o.olds_of;
        olds_differ = o.olds_differ;
      }

  pub gives_turn : (id : ℕ) (v : View E F) (x : V) → v.live ≡ true → v.holds ≡ true → entries x ≡ v.seen → IsOf of (fixed x) v.fixed
      → Allows K 1 id (v, (0, Some x) ∷ []) 0 (λ _. 0) (λ n. frees (v, (0, Some x) ∷ []))
  gives_turn id v x live turn stands same s h long mine fits =
      let P : List ℕ → Type 0 = λ ws. (w : View E F) × (a : Act (Option V)) × Valid s.homes ((0, Some x) ∷ []) a × K (record { words = slice_set ws 0 0; homes = homes_after s.homes ((0, Some x) ∷ []) a; views = set s.views id w }) × frees (v, (0, Some x) ∷ []) (w, carried_after ((0, Some x) ∷ []) a) in
      subst P (sym h.words_are) (
        without_turn v,
        gives,
        tt,
        record {
          log = h.log;
          turn = 0;
          made = h.made;
          makes_at = h.makes_at;
          seat_with = h.seat_with;
          words_are = refl;
          one_slot = ap length (one s.homes h.one_slot);
          at_home = λ _. (x, one s.homes h.one_slot, stands ∙ (me.of_turn turn).1, same.2 ∙ ap of (some_same same.0 f (sym same.1 ∙ p.2)));
          is_named = λ ne. absurd (ne refl);
          few = h.few;
          numbered = h.numbered;
          each = each_set (Fit h.log 0 h.made h.makes_at h.seat_with) s.views id (without_turn v)
              (λ j u apart there. freed j u apart (subst (λ (t : ℕ). Fit h.log t h.made h.makes_at h.seat_with j u) ((me.of_turn turn).0) (h.each j u there)))
              (record {
                of_pass = me.of_pass;
                of_turn = λ t. absurd (true≢false (sym t));
                of_maker = λ m. absurd (true≢false (sym live ∙ (me.of_maker m).4));
                of_closer = λ c. absurd (true≢false (sym live ∙ (me.of_closer c).2));
                olds_have = me.olds_have;
                olds_of = me.olds_of;
                olds_differ = me.olds_differ;
              });
        },
        refl,
      )
    where
      me : Fit h.log h.turn h.made h.makes_at h.seat_with id v
      me = h.each id v mine

      p : (h.seat_with v.number ≡ id) × (v.number < h.made) × (v.fixed ≡ Some f) × HasAll number v.number v.seen h.log
      p = me.of_pass live

      one : (hs : List (maybe.Option (Option V))) → length hs ≡ 1 → set hs 0 (some (Some x)) ≡ some (Some x) ∷ []
      one [] e = absurd (omega arith)
      one (y ∷ []) e = refl
      one (y ∷ z ∷ zs) e = absurd (omega arith)

      -- another seat
      freed : (j : ℕ) (u : View E F) → j ≢ id → Fit h.log (v.number + 1) h.made h.makes_at h.seat_with j u → Fit h.log 0 h.made h.makes_at h.seat_with j u
      freed j u apart o = record {
        of_pass = o.of_pass;
        of_turn = λ t. absurd (alone h.log h.made h.makes_at h.seat_with id v j u p.0 apart o t);
        of_maker = o.of_maker;
        of_closer = o.of_closer;
        olds_have = o.olds_have;
        olds_of = o.olds_of;
        olds_differ = o.olds_differ;
      }

  -- the same, of what a clause says of a seat
  pub takes_turn_as : (slots id turn : ℕ) (m : Me (Option V) (View E F)) → slots ≡ 1 → m.0.live ≡ true → m.1 ≡ [] → turn ≡ m.0.number + 1
      → Allows K slots id m 0 (λ n. either (eqb n 0) turn n) (takes entries fixed of number m)
  takes_turn_as slots id turn m one live empty is =
      subst (λ (z : ℕ × ℕ × List (ℕ × Option V)). Allows K z.0 id (m.0, z.2) 0 (λ n. either (eqb n 0) z.1 n) (takes entries fixed of number (m.0, z.2))) (λ i. (sym one i, sym is i, sym empty i)) (takes_turn id m.0 live)

  pub adds_entry_as : (slots id : ℕ) (m : Me (Option V) (View E F)) (added : List E) (e : E) → slots ≡ 1 → m.0.live ≡ true → m.0.holds ≡ true → m.0.olds ≡ [] → length m.0.seen < 2 ^ 62 → number e ≡ m.0.number → added ≡ e ∷ []
      → Allows K slots id m 1 (λ n. (n + 1) % 2 ^ 64) (counts added m)
  adds_entry_as slots id m added e one live turn single room is these =
      subst (λ (z : ℕ × List E). Allows K z.0 id m 1 (λ n. (n + 1) % 2 ^ 64) (counts z.1 m)) (λ i. (sym one i, sym these i)) (adds_entry id m.0 m.1 e live turn single room is)

  pub gives_turn_as : (slots id : ℕ) (m : Me (Option V) (View E F)) (x : V) → slots ≡ 1 → m.0.live ≡ true → m.0.holds ≡ true → m.1 ≡ (0, Some x) ∷ [] → entries x ≡ m.0.seen → IsOf of (fixed x) m.0.fixed
      → Allows K slots id m 0 (λ _. 0) (λ n. frees m)
  gives_turn_as slots id m x one live turn carries stands same =
      subst (λ (z : ℕ × List (ℕ × Option V)). Allows K z.0 id (m.0, z.1) 0 (λ _. 0) (λ n. frees (m.0, z.1))) (λ i. (sym one i, sym carries i)) (gives_turn id m.0 x live turn stands same)
