use Rattle.std.specs.Prelude.{ℕ, ◌+◌, List, ◌++◌, codes}
use Rattle.std.specs.Fmt.{decimal}
use Rattle.std.specs.List.{flat_map, range_with_len}

-- the domain: trucks drive along roads, and packages are loaded and unloaded
unfoldable pub domain_text : List ℕ
domain_text =
    codes "(define (domain gen)\n"
    ++ codes "(:requirements :typing :durative-actions)\n"
    ++ codes "(:types place thing - object truck package - thing)\n"
    ++ codes "(:predicates (at ?x - thing ?l - place) (in ?p - package ?t - truck) (road ?a ?b - place))\n"
    ++ codes "(:functions (road-time ?a ?b - place))\n"
    ++ codes "(:durative-action load :parameters (?p - package ?t - truck ?l - place)\n"
    ++ codes ":duration (= ?duration 1)\n"
    ++ codes ":condition (and (over all (at ?t ?l)) (at start (at ?p ?l)))\n"
    ++ codes ":effect (and (at start (not (at ?p ?l))) (at end (in ?p ?t))))\n"
    ++ codes "(:durative-action unload :parameters (?p - package ?t - truck ?l - place)\n"
    ++ codes ":duration (= ?duration 1)\n"
    ++ codes ":condition (and (over all (at ?t ?l)) (at start (in ?p ?t)))\n"
    ++ codes ":effect (and (at start (not (in ?p ?t))) (at end (at ?p ?l))))\n"
    ++ codes "(:durative-action drive :parameters (?t - truck ?a ?b - place)\n"
    ++ codes ":duration (= ?duration (road-time ?a ?b))\n"
    ++ codes ":condition (and (at start (at ?t ?a)) (at start (road ?a ?b)))\n"
    ++ codes ":effect (and (at start (not (at ?t ?a))) (at end (at ?t ?b)))))\n"

-- place i
abbrev pub place_name : ℕ → List ℕ
place_name i = codes " l" ++ decimal i

-- package i
abbrev pub package_name : ℕ → List ℕ
package_name i = codes " p" ++ decimal i

-- package i is at the first place
abbrev pub package_at_first : ℕ → List ℕ
package_at_first i = codes " (at p" ++ decimal i ++ codes " l0)"

-- the ends of road i, and the parenthesis behind them
abbrev pub road_ends : ℕ → List ℕ
road_ends i = codes " l" ++ decimal i ++ codes " l" ++ decimal (i + 1) ++ codes ")"

-- a road leads from place i to the next
abbrev pub road : ℕ → List ℕ
road i = codes " (road" ++ road_ends i

-- it takes 3 moments
abbrev pub road_time : ℕ → List ℕ
road_time i = codes " (= (road-time" ++ road_ends i ++ codes " 3)"

-- package i is at place n
abbrev pub package_at : ℕ → ℕ → List ℕ
package_at n i = codes " (at p" ++ decimal i ++ codes " l" ++ decimal n ++ codes ")"

-- the objects: the places from 0 to n, one truck, the packages from 1 to n
abbrev pub objects_text : ℕ → List ℕ
objects_text n =
    codes "(:objects" ++ flat_map place_name (range_with_len 0 (n + 1))
    ++ codes " - place t1 - truck" ++ flat_map package_name (range_with_len 1 n)
    ++ codes " - package)\n"

-- at first everything is at place 0, and roads lead from each place to the next
abbrev pub init_text : ℕ → List ℕ
init_text n =
    codes "(:init (at t1 l0)" ++ flat_map package_at_first (range_with_len 1 n)
    ++ flat_map road (range_with_len 0 n)
    ++ flat_map road_time (range_with_len 0 n)
    ++ codes ")\n"

-- all packages are to be at place n
abbrev pub goal_text : ℕ → List ℕ
goal_text n = codes "(:goal (and" ++ flat_map (package_at n) (range_with_len 1 n) ++ codes ")))\n"

-- the problem with n packages and n roads in a row
unfoldable pub problem_text : ℕ → List ℕ
problem_text n = codes "(define (problem gen)\n" ++ codes "(:domain gen)\n" ++ objects_text n ++ init_text n ++ goal_text n
