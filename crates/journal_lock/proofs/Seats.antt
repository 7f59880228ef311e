-- The first state, and the steps that make seats, join them and end the lock.
use Rattle.std.proofs.Common.{◌≡◌, ◌≢◌, ℕ, zero, suc, ◌+◌, ◌<◌, List, [], ◌∷◌, ◌++◌, length, set, Option, Some, true, false, true≢false, eqb, refl, sym, ap, ◌∙◌, subst, arith, append-nil, append_assoc, length-set, eq-eqb, ne_eqb}
use Rattle.std.specs.Prelude.{slice_set, slice_index}
use Rattle.std.specs.List.{list_any, IsDistinct}
use mathlib.Core.Option.{some, some-ne-none, some-injective}
use mathlib.Core.Logic.{dite}
use native.Mathlib.Decide.{ℕ_discrete}
use lib.ListN.{get_elem?}
use prog.Atomic.{either}
use Rattle.atomic_table.specs.Table.{State, Me, Act, keeps, Valid, homes_after, carried_after, Allows, Splits, Joins, Enters, Final, Seen, opening}
use Rattle.atomic_table.proofs.Lists.{set_else, set_again, at_longer}
use Rattle.journal_lock.specs.declared.table.OldList.{OldList}
use Rattle.journal_lock.specs.declared.table.View.{View}
use Rattle.journal_lock.specs.Rule.{NoneOf, HasAll, AllBelow, Begins, OldsHaveAll, OldsOf, numbers, maker, one_more, new_pass, closer, with_seen, gathered, spent, witness, Fits, IsNamed, Kept, enters, sees}
use Rattle.journal_lock.proofs.Lists.{numbers_length, each_set, each_more, covers, among_who, all_apart, olds_moved, below_up, below_none, all_among, both_have, below_at, none_at}
use Rattle.std.proofs.lemmas.List.{append_cancel_left}

module _ {A : Type 0} where
  -- two places with items that differ are two places
  same_place : (l : List A) (i j : ℕ) (a b : A) → get_elem? l i ≡ some a → get_elem? l j ≡ some b → i ≡ j → a ≡ b
  same_place l i j a b e e' same = some-injective a b (sym e ∙ ap (get_elem? l) same ∙ e')

-- the seat of a number, where one changed
abbrev moved : (ℕ → ℕ) → ℕ → ℕ → ℕ → ℕ
moved seat_with made n k = either (eqb k made) n (seat_with k)

moved_new : (seat_with : ℕ → ℕ) (made n : ℕ) → moved seat_with made n made ≡ n
moved_new seat_with made n = ap (λ b. either b n (seat_with made)) (eq-eqb made made refl)

moved_old : (seat_with : ℕ → ℕ) (made n k : ℕ) → k ≢ made → moved seat_with made n k ≡ seat_with k
moved_old seat_with made n k ne = ap (λ b. either b n (seat_with k)) (ne_eqb k made ne)

-- the seat of a number, where the numbers of one seat went to another
abbrev joined : (ℕ → ℕ) → ℕ → ℕ → ℕ → ℕ
joined seat_with other id k = either (eqb (seat_with k) other) id (seat_with k)

joined_there : (seat_with : ℕ → ℕ) (other id k : ℕ) → seat_with k ≡ other → joined seat_with other id k ≡ id
joined_there seat_with other id k e = ap (λ b. either b id (seat_with k)) (eq-eqb (seat_with k) other e)

joined_else : (seat_with : ℕ → ℕ) (other id k : ℕ) → seat_with k ≢ other → joined seat_with other id k ≡ seat_with k
joined_else seat_with other id k ne = ap (λ b. either b id (seat_with k)) (ne_eqb (seat_with k) other ne)

first_old : {E : Type 0} (seat_with : ℕ → ℕ) (made id : ℕ) (olds : List (OldList E)) → OldsOf seat_with made id olds → 0 < length olds → (k : ℕ) × (k < made) × (seat_with k ≡ id)
first_old seat_with made id [] of any = absurd (omega arith)
first_old seat_with made id (o ∷ os) of any = (o.number, of.0.1, of.0.0)

module _ {V E F G : Type 0} (entries : V → List E) (fixed : V → G) (of : F → G) (number : E → ℕ) (f : F) (seats : ℕ) where
  abbrev K : State (Option V) (View E F) → Type 0
  K = Kept entries fixed of number f seats

  abbrev Fit : List E → ℕ → ℕ → ℕ → (ℕ → ℕ) → ℕ → View E F → Type 0
  Fit = Fits number f seats

  pub begins : (x : V) → entries x ≡ [] → fixed x ≡ of f → K (opening (0 ∷ 0 ∷ []) (Some x ∷ []) (maker f seats))
  unfolding IsDistinct
  begins x empty same = record {
    log = [];
    turn = 0;
    made = 0;
    makes_at = 0;
    seat_with = λ _. 0;
    words_are = refl;
    one_slot = refl;
    at_home = λ _. (x, refl, empty, same);
    is_named = λ ne. absurd (ne refl);
    few = omega arith;
    numbered = tt;
    each = one;
  }
    where
      one : (id : ℕ) (v : View E F) → get_elem? (maker f seats ∷ []) id ≡ some v → Fit [] 0 0 0 (λ _. 0) id v
      one zero v e = subst (Fit [] 0 0 0 (λ _. 0) 0) (some-injective _ _ e) (record {
        of_pass = λ l. absurd (true≢false (sym l));
        of_turn = λ t. absurd (true≢false (sym t));
        of_maker = λ _. (refl, refl, refl, refl, refl);
        of_closer = λ c. absurd (true≢false (sym c));
        olds_have = tt;
        olds_of = tt;
        olds_differ = tt;
      })
      one (suc id) v e = absurd (some-ne-none v (sym e))

  pub makes_pass : (id : ℕ) (v : View E F) → v.makes ≡ true → v.made < seats → Splits K id v (one_more v) (new_pass v)
  unfolding IsDistinct
  makes_pass id v makes room s h mine = record {
    log = h.log;
    turn = h.turn;
    made = h.made + 1;
    makes_at = h.makes_at;
    seat_with = seat_with';
    words_are = h.words_are;
    one_slot = h.one_slot;
    at_home = h.at_home;
    is_named = λ ne. named (h.is_named ne);
    few = let e = mk.1 in omega arith;
    numbered = below_up number h.made (h.made + 1) h.log (omega arith) h.numbered;
    each = each_more (Fit h.log h.turn (h.made + 1) h.makes_at seat_with') (set s.views id (one_more v)) (new_pass v)
        (each_set (Fit h.log h.turn (h.made + 1) h.makes_at seat_with') s.views id (one_more v) (λ j u apart there. other j u apart (h.each j u there)) me')
        new;
  }
    where
      me : Fit h.log h.turn h.made h.makes_at h.seat_with id v
      me = h.each id v mine

      mk : (h.makes_at ≡ id) × (v.made ≡ h.made) × (v.fixed ≡ Some f) × (v.holds ≡ false) × (v.live ≡ false)
      mk = me.of_maker makes

      seat_with' : ℕ → ℕ
      seat_with' = moved h.seat_with h.made (length s.views)

      still : (k j : ℕ) → k < h.made → h.seat_with k ≡ j → seat_with' k ≡ j
      still k j less e = moved_old h.seat_with h.made (length s.views) k (λ same. absurd (omega arith)) ∙ e

      named : IsNamed h.made h.seat_with s.views → IsNamed (h.made + 1) seat_with' (set s.views id (one_more v) ++ new_pass v ∷ [])
      named n =
          let less = n.2 in
          let apart : h.seat_with n.0 ≢ id = λ same. absurd (true≢false (sym n.4 ∙ ap (λ (u : View E F). u.holds) (same_place s.views (h.seat_with n.0) id n.1 v n.3 mine same) ∙ mk.3)) in (
            n.0,
            n.1,
            omega arith,
            subst (λ i. get_elem? (set s.views id (one_more v) ++ new_pass v ∷ []) i ≡ some n.1) (sym (still n.0 (h.seat_with n.0) n.2 refl))
                (at_longer (set s.views id (one_more v)) (new_pass v ∷ []) (h.seat_with n.0) n.1 (set_else s.views id (h.seat_with n.0) (one_more v) apart ∙ n.3)),
            n.4,
          )

      other : (j : ℕ) (u : View E F) → j ≢ id → Fit h.log h.turn h.made h.makes_at h.seat_with j u → Fit h.log h.turn (h.made + 1) h.makes_at seat_with' j u
      other j u apart o = record {
        of_pass = λ l. let p = o.of_pass l in let b = p.1 in (still u.number j p.1 p.0, omega arith, p.2, p.3);
        of_turn = o.of_turn;
        of_maker = λ m. absurd (apart (sym (o.of_maker m).0 ∙ mk.0));
        of_closer = o.of_closer;
        olds_have = o.olds_have;
        olds_of = olds_moved h.seat_with seat_with' h.made (h.made + 1) j u.olds (omega arith) (λ k less e. still k j less e) o.olds_of;
        olds_differ = o.olds_differ;
      }

      me' : Fit h.log h.turn (h.made + 1) h.makes_at seat_with' id (one_more v)
      me' = record {
        of_pass = λ l. absurd (true≢false (sym l ∙ mk.4));
        of_turn = λ t. absurd (true≢false (sym t ∙ mk.3));
        of_maker = λ _. (mk.0, ap (λ n. n + 1) mk.1, mk.2, mk.3, mk.4);
        of_closer = me.of_closer;
        olds_have = me.olds_have;
        olds_of = olds_moved h.seat_with seat_with' h.made (h.made + 1) id v.olds (omega arith) (λ k less e. still k id less e) me.olds_of;
        olds_differ = me.olds_differ;
      }

      new : Fit h.log h.turn (h.made + 1) h.makes_at seat_with' (length (set s.views id (one_more v))) (new_pass v)
      new = record {
        of_pass = λ _. (
          ap seat_with' mk.1 ∙ moved_new h.seat_with h.made (length s.views) ∙ sym (length-set s.views id (one_more v)),
          (let e = mk.1 in omega arith),
          mk.2,
          (h.log, refl, subst (λ n. NoneOf number n h.log) (sym mk.1) (below_none number h.made h.log h.numbered)),
        );
        of_turn = λ t. absurd (true≢false (sym t));
        of_maker = λ m. absurd (true≢false (sym m));
        of_closer = λ c. absurd (true≢false (sym c));
        olds_have = tt;
        olds_of = tt;
        olds_differ = tt;
      }

  pub enters_last : Enters K 1 1 (λ n w. enters {V = V} (maker f seats, []) n (w, []))
  unfolding IsDistinct
  enters_last s h long fits =
      let w : View E F = closer (Some f) seats h.log in (
        w,
        record {
          log = h.log;
          turn = h.turn;
          made = h.made;
          makes_at = h.makes_at;
          seat_with = h.seat_with;
          words_are = h.words_are;
          one_slot = h.one_slot;
          at_home = h.at_home;
          is_named = λ ne. let n = h.is_named ne in (n.0, n.1, n.2, at_longer s.views (w ∷ []) (h.seat_with n.0) n.1 n.3, n.4);
          few = h.few;
          numbered = h.numbered;
          each = each_more (Fit h.log h.turn h.made h.makes_at h.seat_with) s.views w h.each (record {
            of_pass = λ l. absurd (true≢false (sym l));
            of_turn = λ t. absurd (true≢false (sym t));
            of_maker = λ m. absurd (true≢false (sym m));
            of_closer = λ _. (refl, refl, refl, ([], sym (append-nil h.log)));
            olds_have = tt;
            olds_of = tt;
            olds_differ = tt;
          });
        },
        (sym (ap (λ ws. slice_index ws 1) h.words_are), refl),
      )

  pub joins_last : (id : ℕ) (v : View E F) (other : ℕ) (w : View E F) → v.live ≡ false → v.holds ≡ false → w.live ≡ true → w.holds ≡ false → Joins K id v other w (gathered v w) spent
  unfolding IsDistinct
  joins_last id v other w dead idle live rests' s h mine apart there = record {
    log = h.log;
    turn = h.turn;
    made = h.made;
    makes_at = h.makes_at;
    seat_with = seat_with';
    words_are = h.words_are;
    one_slot = h.one_slot;
    at_home = h.at_home;
    is_named = λ ne. named (h.is_named ne);
    few = h.few;
    numbered = h.numbered;
    each = each_set (Fit h.log h.turn h.made h.makes_at seat_with') (set s.views id (gathered v w)) other spent
        (λ j u not_other at. subst (λ x. x) refl (each_set (λ i y. i ≢ other → Fit h.log h.turn h.made h.makes_at seat_with' i y) s.views id (gathered v w) (λ i y not_id was not_other'. rest i y not_other' (h.each i y was)) (λ _. me') j u at not_other))
        (record {
          of_pass = λ l. absurd (true≢false (sym l));
          of_turn = λ t. absurd (true≢false (sym t));
          of_maker = λ m. absurd (true≢false (sym m));
          of_closer = λ c. absurd (true≢false (sym c));
          olds_have = tt;
          olds_of = tt;
          olds_differ = tt;
        });
  }
    where
      me : Fit h.log h.turn h.made h.makes_at h.seat_with id v
      me = h.each id v mine

      there' : get_elem? s.views other ≡ some w
      there' = sym (set_else s.views id other (gathered v w) apart) ∙ there

      its : Fit h.log h.turn h.made h.makes_at h.seat_with other w
      its = h.each other w there'

      p : (h.seat_with w.number ≡ other) × (w.number < h.made) × (w.fixed ≡ Some f) × HasAll number w.number w.seen h.log
      p = its.of_pass live

      seat_with' : ℕ → ℕ
      seat_with' = joined h.seat_with other id

      still : (j : ℕ) → j ≢ other → (k : ℕ) → h.seat_with k ≡ j → seat_with' k ≡ j
      still j not_other k e = joined_else h.seat_with other id k (λ same. not_other (sym e ∙ same)) ∙ e

      named : IsNamed h.made h.seat_with s.views → IsNamed h.made seat_with' (set (set s.views id (gathered v w)) other spent)
      named n =
          let not_id : h.seat_with n.0 ≢ id = λ same. absurd (true≢false (sym n.4 ∙ ap (λ (u : View E F). u.holds) (same_place s.views (h.seat_with n.0) id n.1 v n.3 mine same) ∙ idle)) in
          let not_other : h.seat_with n.0 ≢ other = λ same. absurd (true≢false (sym n.4 ∙ ap (λ (u : View E F). u.holds) (same_place s.views (h.seat_with n.0) other n.1 w n.3 there' same) ∙ rests')) in (
            n.0,
            n.1,
            n.2,
            subst (λ i. get_elem? (set (set s.views id (gathered v w)) other spent) i ≡ some n.1) (sym (still (h.seat_with n.0) not_other n.0 refl))
                (set_else (set s.views id (gathered v w)) other (h.seat_with n.0) spent not_other ∙ set_else s.views id (h.seat_with n.0) (gathered v w) not_id ∙ n.3),
            n.4,
          )

      rest : (j : ℕ) (u : View E F) → j ≢ other → Fit h.log h.turn h.made h.makes_at h.seat_with j u → Fit h.log h.turn h.made h.makes_at seat_with' j u
      rest j u not_other o = record {
        of_pass = λ l. let q = o.of_pass l in (still j not_other u.number q.0, q.1, q.2, q.3);
        of_turn = o.of_turn;
        of_maker = o.of_maker;
        of_closer = o.of_closer;
        olds_have = o.olds_have;
        olds_of = olds_moved h.seat_with seat_with' h.made h.made j u.olds (omega arith) (λ k less e. still j not_other k e) o.olds_of;
        olds_differ = o.olds_differ;
      }

      me' : Fit h.log h.turn h.made h.makes_at seat_with' id (gathered v w)
      me' = let r = rest id v (λ same. apart (sym same)) me in record {
        of_pass = λ l. absurd (true≢false (sym l ∙ dead));
        of_turn = λ t. absurd (true≢false (sym t ∙ idle));
        of_maker = me.of_maker;
        of_closer = me.of_closer;
        olds_have = (p.3, me.olds_have);
        olds_of = ((joined_there h.seat_with other id w.number p.0, p.1), r.olds_of);
        olds_differ = (all_apart h.seat_with h.made id v.olds w.number me.olds_of (λ same. apart (sym p.0 ∙ same)), me.olds_differ);
      }

  -- the same, of what a clause says of a seat
  pub enters_last_as : (slots : ℕ) → slots ≡ 1 → Enters K slots 1 (λ n w. enters {V = V} (maker f seats, []) n (w, []))
  enters_last_as slots one = subst (λ z. Enters K z 1 (λ n w. enters {V = V} (maker f seats, []) n (w, []))) (sym one) enters_last

  pub splits_witness : (id : ℕ) (v : View E F) → Splits K id v v (witness v)
  unfolding IsDistinct
  splits_witness id v s h mine = subst (λ (vs : List (View E F)). K (record { words = s.words; homes = s.homes; views = vs ++ witness v ∷ [] })) (sym (set_again s.views id v mine)) (record {
    log = h.log;
    turn = h.turn;
    made = h.made;
    makes_at = h.makes_at;
    seat_with = h.seat_with;
    words_are = h.words_are;
    one_slot = h.one_slot;
    at_home = h.at_home;
    is_named = λ ne. let n = h.is_named ne in (n.0, n.1, n.2, at_longer s.views (witness v ∷ []) (h.seat_with n.0) n.1 n.3, n.4);
    few = h.few;
    numbered = h.numbered;
    each = each_more (Fit h.log h.turn h.made h.makes_at h.seat_with) s.views (witness v) h.each (record {
      of_pass = λ l. absurd (true≢false (sym l));
      of_turn = λ t. absurd (true≢false (sym t));
      of_maker = λ m. absurd (true≢false (sym m));
      of_closer = λ c. absurd (true≢false (sym c));
      olds_have = tt;
      olds_of = tt;
      olds_differ = tt;
    });
  })

  -- the numbers of as many old lists as there are seats are all numbers that were made
  all_made : (s : State (Option V) (View E F)) (h : K s) (id : ℕ) (v : View E F) → get_elem? s.views id ≡ some v → length v.olds ≡ seats → (k : ℕ) → k < h.made → list_any (eqb k) (numbers v.olds) ≡ true
  all_made s h id v mine many k less =
      let few = h.few in
      let me = h.each id v mine in
      covers (numbers v.olds) seats me.olds_differ
      (λ q e. let b = (among_who h.seat_with h.made id v.olds me.olds_of q e).1 in omega arith)
      (let l : length (numbers v.olds) ≡ seats = numbers_length v.olds ∙ many in omega arith)
      k
      (omega arith)

  pub sees_whole : (id : ℕ) (v : View E F) (c : List (ℕ × Option V)) → v.closes ≡ true → v.holds ≡ false → v.makes ≡ false → length v.olds ≡ seats → Allows K 1 id (v, c) 1 (λ n. n) (sees number (v, c))
  sees_whole id v c last idle no_maker many s h long mine fits =
      let P : List ℕ → Type 0 = λ ws. (w : View E F) × (a : Act (Option V)) × Valid s.homes c a × K (record { words = slice_set ws 1 (slice_index ws 1); homes = homes_after s.homes c a; views = set s.views id w }) × sees number (v, c) (slice_index ws 1) (w, carried_after c a) in
      subst P (sym h.words_are) (
        with_seen v h.log,
        keeps,
        tt,
        record {
          log = h.log;
          turn = h.turn;
          made = h.made;
          makes_at = h.makes_at;
          seat_with = h.seat_with;
          words_are = refl;
          one_slot = h.one_slot;
          at_home = h.at_home;
          is_named = λ ne. let n = h.is_named ne in (
            n.0,
            n.1,
            n.2,
            set_else s.views id (h.seat_with n.0) (with_seen v h.log)
                (λ same. absurd (true≢false (sym n.4 ∙ ap (λ (u : View E F). u.holds) (same_place s.views (h.seat_with n.0) id n.1 v n.3 mine same) ∙ idle))) ∙ n.3,
            n.4,
          );
          few = h.few;
          numbered = h.numbered;
          each = each_set (Fit h.log h.turn h.made h.makes_at h.seat_with) s.views id (with_seen v h.log) (λ j u apart there. h.each j u there) (record {
            of_pass = λ l. absurd (true≢false (sym l ∙ q.2));
            of_turn = λ t. absurd (true≢false (sym t ∙ idle));
            of_maker = λ m. absurd (true≢false (sym m ∙ no_maker));
            of_closer = λ _. (q.0, q.1, q.2, ([], sym (append-nil h.log)));
            olds_have = me.olds_have;
            olds_of = me.olds_of;
            olds_differ = me.olds_differ;
          });
        },
        (refl, refl, me.olds_have, me.olds_differ, all_among number h.made (numbers v.olds) h.log h.numbered (all_made s h id v mine many)),
      )
    where
      me : Fit h.log h.turn h.made h.makes_at h.seat_with id v
      me = h.each id v mine

      q : (v.number ≡ seats) × (v.fixed ≡ Some f) × (v.live ≡ false) × Begins v.seen h.log
      q = me.of_closer last

  -- past a list that has all entries with each number, there is no entry
  none_left : (made : ℕ) (olds : List (OldList E)) (seen more : List E) → AllBelow number made (seen ++ more) → ((k : ℕ) → k < made → list_any (eqb k) (numbers olds) ≡ true) → OldsHaveAll number olds (seen ++ more) → OldsHaveAll number olds seen → more ≡ []
  none_left made olds seen [] below all long short = refl
  none_left made olds seen (e ∷ es) below all long short =
      let o = both_have number (number e) olds (seen ++ e ∷ es) seen (all (number e) (below_at number made seen e es below)) long short in
      let rest = append_cancel_left o.0 (o.2.0 ++ e ∷ es) o.1.0 (sym (ap (λ l. l ++ e ∷ es) o.2.1 ∙ append_assoc o.0 o.2.0 (e ∷ es)) ∙ o.1.1) in
      absurd (none_at number (number e) o.2.0 e es (subst (λ l. NoneOf number (number e) l) (sym rest) o.1.2) refl)

  -- at the end the value is at home, and stands for the list that was seen
  pub at_end : (id : ℕ) (v : View E F) (s : State (Option V) (View E F)) → K s → get_elem? s.views id ≡ some v → v.closes ≡ true → v.holds ≡ false → length v.olds ≡ seats → OldsHaveAll number v.olds v.seen
      → (x : V) × (s.homes ≡ some (Some x) ∷ []) × (entries x ≡ v.seen) × (fixed x ≡ of f)
  at_end id v s h mine last idle many have =
      let me = h.each id v mine in
      let q = me.of_closer last in
      let all = all_made s h id v mine many in
      let long = q.3.1 in
      let none = none_left h.made v.olds v.seen q.3.0 (subst (λ l. AllBelow number h.made l) long h.numbered) all (subst (λ l. OldsHaveAll number v.olds l) long me.olds_have) have in
      let whole : h.log ≡ v.seen = long ∙ ap (λ l. v.seen ++ l) none ∙ append-nil v.seen in
      let home = dite (ℕ_discrete h.turn 0) (λ e. h.at_home e) (λ ne. let n = h.is_named ne in
      absurd (true≢false (sym n.4 ∙ ap (λ (u : View E F). u.holds) (same_place s.views (h.seat_with n.0) id n.1 v n.3 mine ((among_who h.seat_with h.made id v.olds me.olds_of n.0 (all n.0 n.2)).0)) ∙ idle))) in
      (home.0, home.1, home.2 ∙ whole, home.3)

  -- the same, of what is left of the table
  pub final_value : (id : ℕ) (v : View E F) (ws : List ℕ) (xs : List (Option V)) (y : Option V) (olds : List (OldList E)) → Final (Seen K id v) ws xs → v ≡ record (closer (Some f) seats v.seen) { olds = olds } → length olds ≡ seats → OldsHaveAll number v.olds v.seen → get_elem? xs 0 ≡ some y
      → (x : V) × (y ≡ Some x) × (entries x ≡ v.seen) × (fixed x ≡ of f)
  final_value id v ws xs y olds final is many have at =
      let s = final.0 in
      let e = at_end id v s final.1.0 final.1.1 (ap (λ (u : View E F). u.closes) is) (ap (λ (u : View E F). u.holds) is) (ap (λ (u : View E F). length u.olds) is ∙ many) have in
      (e.0, some-injective y (Some e.0) (sym at ∙ final.4 0 (Some e.0) (ap (λ hs. get_elem? hs 0) e.1)), e.2, e.3)

  pub sees_whole_as : (slots id : ℕ) (m : Me (Option V) (View E F)) (olds : List (OldList E)) → slots ≡ 1 → m.0 ≡ record (closer (Some f) seats m.0.seen) { olds = olds } → length olds ≡ seats → Allows K slots id m 1 (λ n. n) (sees number m)
  sees_whole_as slots id m olds one is many =
      subst (λ z. Allows K z id m 1 (λ n. n) (sees number m)) (sym one)
      (sees_whole id m.0 m.1 (ap (λ (v : View E F). v.closes) is) (ap (λ (v : View E F). v.holds) is) (ap (λ (v : View E F). v.makes) is) (ap (λ (v : View E F). length v.olds) is ∙ many))

  -- from the seat that took in the passes to the seat that the table is closed with, and the value that it leaves
  pub closed_value : (id : ℕ) (m0 m1 m2 : Me (Option V) (View E F)) (olds : List (OldList E)) (ws : List ℕ) (xs : List (Option V)) (y : Option V)
      → m0.0 ≡ record (closer (Some f) seats m0.0.seen) { olds = olds } → m1 ≡ (with_seen m0.0 m1.0.seen, m0.1) → m2 ≡ (m1.0, m1.1) → OldsHaveAll number m0.0.olds m1.0.seen → length olds ≡ seats
      → Final (Seen K id m2.0) ws xs → get_elem? xs 0 ≡ some y → (x : V) × (y ≡ Some x) × (entries x ≡ m1.0.seen) × (fixed x ≡ of f)
  closed_value id m0 m1 m2 olds ws xs y own sees same have many final at =
      let seen : m2.0.seen ≡ m1.0.seen = ap (λ (m : Me (Option V) (View E F)). m.0.seen) same in
      let is : m2.0 ≡ record (closer (Some f) seats m2.0.seen) { olds = olds } =
      ap (λ (m : Me (Option V) (View E F)). m.0) same ∙ ap (λ (m : Me (Option V) (View E F)). m.0) sees ∙ ap (λ (u : View E F). with_seen u m1.0.seen) own
      ∙ ap (λ l. record (closer (Some f) seats l) { olds = olds }) (sym seen) in
      let olds_are : m0.0.olds ≡ m2.0.olds = sym (ap (λ (m : Me (Option V) (View E F)). m.0.olds) same ∙ ap (λ (m : Me (Option V) (View E F)). m.0.olds) sees) in
      let r = final_value id m2.0 ws xs y olds final is many (subst (λ (z : List (OldList E) × List E). OldsHaveAll number z.0 z.1) (λ i. (olds_are i, sym seen i)) have) at in
      (r.0, r.1, r.2 ∙ seen, r.3)
