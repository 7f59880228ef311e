-- The methods of a resource, as the field Allow lists them (RFC 9110, section 10.2.1).
use Rattle.std.specs.Prelude.{ℕ, List, codes}
use Rattle.api_calls.specs.declared.fault.Allow.{Allow}
use Rattle.api_calls.specs.declared.fault.Allow.TheVariants.{Get, GetPost, GetPostPutDelete, GetDelete, GetPutDelete, Post, PostPutDelete}

abbrev pub methods_of : Allow → List ℕ
methods_of Get = codes "GET"
methods_of GetPost = codes "GET, POST"
methods_of GetPostPutDelete = codes "GET, POST, PUT, DELETE"
methods_of GetDelete = codes "GET, DELETE"
methods_of GetPutDelete = codes "GET, PUT, DELETE"
methods_of Post = codes "POST"
methods_of PostPutDelete = codes "POST, PUT, DELETE"
